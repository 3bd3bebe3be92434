use Rattle.std.proofs.Common.{None, rules}
use Rattle.capacity.specs.Calls.{passed}
use Rattle.slot_book.specs.Slot.{slot_meaning}
use Rattle.slot_book.proofs.Writes.{Tells, not_refused, passing_small, passes_none}
use Rattle.slot_book.proofs.slot.SlotBook.pass.Goals.{After-drop_ended}
use Rattle.slot_book.proofs.slot.SlotBook.pass.Goals as goal

told :
    (c : After-drop_ended) →
    Tells c.pass.new.self.clock c.pass.new.self.horizon c.drop_ended.new.spans.items (passed (slot_meaning c.args.self.now) None)
told c =
    let b = c.args.self.now in
    passes_none b c.index_mut.result.now c.change.new.self _ _ _ (not_refused b c.in_ok-pass.ensures.answer)
    c.index_mut.ensures.value c.change.ensures.changed c.drop_ended.ensures.items c.in_ok-pass.ensures.clock
    c.in_ok-pass.ensures.horizon

pub change-requires : goal.change-requires
change-requires c =
    let b = c.args.self.now in
    passing_small b _ (not_refused b c.in_ok-pass.ensures.answer) c.index_mut.ensures.value

pub invariant_of-self-2 : goal.invariant_of-self-2
invariant_of-self-2 c =
    let k = (told (goal.at.invariant_of-self-2 c).After-drop_ended).keeps in
    record { fair = k.fair; ordered = k.ordered; bounded = k.bounded; few = search rules; room = search rules }

pub returns-clause-book : goal.returns-clause-book
returns-clause-book c =
    let off = not_refused c.args.self.now c.in_ok-pass.ensures.answer in
    rw off (told (goal.at.returns-clause-book c).After-drop_ended).means
