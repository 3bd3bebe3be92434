use Rattle.std.proofs.Common.{◌≡◌, None, sym, ap, ◌∙◌}
use Rattle.capacity.specs.Calls.{run_says, run_leaves, forgive_leaves, with_boundaries}
use Rattle.capacity.proofs.Slots.{forgive_taken, run_is_forgive_and_pass}
use Rattle.slot_book.specs.Slot.{slot_meaning}
use Rattle.slot_book.proofs.Writes.{less_due}
use Rattle.slot_book.proofs.slot.SlotBook.run_for.Goals as goal

pub returns : goal.returns
returns c =
    let m = slot_meaning c.args.self.now in
    let due = c.in_ok-place.ensures.1 in
    let law = run_is_forgive_and_pass m c.args.deadline c.args.self.now.ordered due in
    let left : slot_meaning c.forgive_at.new.self ≡ forgive_leaves m c.args.deadline 1 =
    c.forgive_at.ensures ∙ ap (with_boundaries m) (less_due c.in_ok-place.ensures.0 1) ∙ sym (forgive_taken m c.args.deadline 1 due)
    in
    record {
      answer = c.pass.ensures.answer ∙ ap (λ x. run_says x None) left ∙ sym law.0;
      book = c.pass.ensures.book ∙ ap (λ x. run_leaves x None) left ∙ sym law.1;
    }
