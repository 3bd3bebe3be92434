use Rattle.std.proofs.Common.{◌+◌, refl, arith, rules}
use Rattle.std.proofs.lemmas.Bool.{le-leb}
use Rattle.capacity.specs.Noted.{first_end, caught_up}
use Rattle.slot_book.specs.Slot.{slot_boundaries, slot_meaning}
use Rattle.slot_book.proofs.Writes.{Tells, ahead, catches_up, mendable, mended_items}
use Rattle.slot_book.proofs.slot.SlotBook.catch_up.Goals.{After-drop_ended}
use Rattle.slot_book.proofs.slot.SlotBook.catch_up.Goals as goal

pub mend-requires : goal.mend-requires
mend-requires c =
    let b = c.args.self.now in
    let lent = c.deref_mut.ensures.value in
    record {
      records = rw lent (mendable b);
      order = (omega arith, rw lent (ahead b _ _ c.first_end.ensures c.if-slots-first_end.false).within);
    }

pub invariant_of-self : goal.invariant_of-self
invariant_of-self c =
    let b = c.args.self.now in
    record { ordered = (ahead b _ _ c.first_end.ensures c.if-slots-first_end.false).early; ranged = b.time.ranged }

told :
    (c : After-drop_ended) →
    Tells (c.args.self.now.time.clock + c.args.slots) c.args.self.now.time.horizon c.drop_ended.new.spans.items
    (caught_up (slot_meaning c.args.self.now) c.args.slots c.args.served.now)
told c =
    let b = c.args.self.now in
    catches_up b _ _ _ _ (ahead b _ _ c.first_end.ensures c.if-slots-first_end.false).within
    (mended_items b _ _ _ _ (search rules) c.mend.ensures c.deref_mut.ensures.value) c.drop_ended.ensures.items

pub invariant_of-self-2 : goal.invariant_of-self-2
invariant_of-self-2 c =
    let k = (told (goal.at.invariant_of-self-2 c).After-drop_ended).keeps in
    record { fair = k.fair; ordered = k.ordered; bounded = k.bounded; few = search rules; room = search rules }

pub returns : goal.returns
returns c =
    let b = c.args.self.now in
    let fit =
    le-leb (b.time.clock + c.args.slots) (first_end b.time.clock (slot_boundaries b))
    (ahead b _ _ c.first_end.ensures c.if-slots-first_end.false).within
    in
    record { answer = rw fit refl; book = rw fit (told (goal.at.returns c).After-drop_ended).means }
