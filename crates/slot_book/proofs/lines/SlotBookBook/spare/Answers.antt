use Rattle.std.proofs.Common.{◌≡◌, ◌-◌, ◌<◌, length, vec_items, refl, ap, ◌∙◌, w32, SFits, rules}
use Rattle.std.proofs.lemmas.List.{get_or_read}
use Rattle.std.proofs.lemmas.Int.{to_z-of_z}
use Rattle.capacity.specs.Spare.{spare}
use Rattle.capacity.proofs.Intervals.{spare_answered}
use Rattle.slot_book.specs.Slot.{slot_meaning}
use Rattle.slot_book.proofs.Books.{spare_told}
use Rattle.slot_book.proofs.lines.SlotBookBook.spare.Goals as goal

pub returns : goal.returns
returns c =
    let b = c.args.self.now in
    let xs = vec_items b.spans in
    let fits : SFits w32 c.span.inside.spare = search rules in
    let within : c.args.interval - 1 < length xs = search rules in
    let is : c.span.inside.spare ≡ spare (slot_meaning b) c.args.interval =
    ap (λ x. x.spare) (c.span.view_is ∙ get_or_read xs (c.args.interval - 1) _ within c.index-span.ensures _)
    ∙ spare_told b.time.clock xs (c.args.interval - 1) b.fair
    in
    record {
      answer =
          rw (to_z-of_z w32 c.span.inside.spare fits)
          (spare_answered (slot_meaning b) c.args.interval _ (search rules) (search rules) is);
      same = refl;
    }
