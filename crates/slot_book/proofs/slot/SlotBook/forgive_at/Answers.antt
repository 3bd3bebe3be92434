use Rattle.std.proofs.Common.{◌<◌, ◌≤◌, refl, ◌-◌, length, vec_items, arith, rules}
use Rattle.std.specs.Vec.{with_items}
use Rattle.slot_book.specs.Due.{due_there, owing_there}
use Rattle.slot_book.specs.Slot.{slot_meaning}
use Rattle.slot_book.proofs.Books.{length_dues}
use Rattle.slot_book.proofs.Fits.{gain_is}
use Rattle.slot_book.proofs.Writes.{Tells, tells_small, carried_items, forgiven, due_small}
use Rattle.slot_book.proofs.slot.SlotBook.forgive_at.Goals.{Start, After-carry}
use Rattle.slot_book.proofs.slot.SlotBook.forgive_at.Goals as goal

few : (c : Start) → c.args.demand ≤ 1000000
few c = due_small c.args.self.now _ _ c.requires.within c.requires.owed

pub overflow_cast-demand : goal.overflow_cast-demand
overflow_cast-demand c = let small = few (goal.at.overflow_cast-demand c).Start in search rules

pub carry-requires : goal.carry-requires
carry-requires c =
    let b = c.args.self.now in
    let lent = c.deref_mut.ensures.value in
    let within : c.args.place < length (vec_items b.spans) = omega (arith, c.requires.within, length_dues b.time.clock (vec_items b.spans)) in
    record {
      within = rw lent within;
      spares =
          rw
          (lent, gain_is c.args.demand (few (goal.at.carry-requires c).Start))
          (tells_small b _ _ (forgiven b _ _ _ c.requires.within c.requires.owed refl));
    }

told :
    (c : After-carry) →
    Tells c.args.self.now.time.clock c.args.self.now.time.horizon (with_items c.args.self.now.spans c.carry.new.spans).items
    (owing_there (slot_meaning c.args.self.now) c.args.place (due_there (slot_meaning c.args.self.now) c.args.place - c.args.demand))
told c =
    forgiven c.args.self.now _ _ _ c.requires.within c.requires.owed
    (carried_items c.args.self.now.spans _ _ _ _ _ (search rules) c.carry.ensures.after
    (gain_is c.args.demand (due_small c.args.self.now _ _ c.requires.within c.requires.owed)) c.deref_mut.ensures.value)

pub invariant_of-self : goal.invariant_of-self
invariant_of-self c =
    let k = (told (goal.at.invariant_of-self c).After-carry).keeps in
    record { fair = k.fair; ordered = k.ordered; bounded = k.bounded; few = search rules; room = search rules }

pub returns : goal.returns
returns c = (told (goal.at.returns c).After-carry).means
