use Rattle.std.proofs.Common.{arith, rules}
use Rattle.capacity.specs.Calls.{with_boundaries, with_boundary}
use Rattle.slot_book.specs.Slot.{slot_meaning, slot_boundaries}
use Rattle.slot_book.proofs.Writes.{Tells, inside, split_small, split_at}
use Rattle.slot_book.proofs.slot.SlotBook.split.Goals.{After-insert}
use Rattle.slot_book.proofs.slot.SlotBook.split.Goals as goal

pub start-start-requires : goal.start-start-requires
start-start-requires c =
    let at = inside c.args.self.now _ _ c.requires.new c.requires.coming in
    omega (arith, at.place)

pub index-requires : goal.index-requires
index-requires c = (inside c.args.self.now _ _ c.requires.new c.requires.coming).place

pub split_at-left-requires : goal.split_at-left-requires
split_at-left-requires c =
    let b = c.args.self.now in
    let at = split_small b _ _ _ _ (inside b _ _ c.requires.new c.requires.coming) c.start-start.ensures c.index.ensures in
    record { inside = at.0; small = at.1 }

pub index_mut-requires : goal.index_mut-requires
index_mut-requires c = (inside c.args.self.now _ _ c.requires.new c.requires.coming).place

pub insert-requires : goal.insert-requires
insert-requires c =
    let at = inside c.args.self.now _ _ c.requires.new c.requires.coming in
    let within = at.place in
    search rules

told :
    (c : After-insert) →
    Tells c.args.self.now.time.clock c.args.self.now.time.horizon c.insert.new.self.items
    (with_boundaries (slot_meaning c.args.self.now) (with_boundary (slot_boundaries c.args.self.now) c.args.deadline))
told c =
    split_at c.args.self.now _ c.args.place _ _ c.split_at-left.result.0 c.split_at-left.result.1 _ c.requires.new
    c.requires.coming c.start-start.ensures c.index.ensures c.split_at-left.ensures.left c.split_at-left.ensures.right
    (search rules)

pub invariant_of-self : goal.invariant_of-self
invariant_of-self c =
    let k = (told (goal.at.invariant_of-self c).After-insert).keeps in
    record { fair = k.fair; ordered = k.ordered; bounded = k.bounded; few = search rules; room = search rules }

pub returns : goal.returns
returns c = (told (goal.at.returns c).After-insert).means
