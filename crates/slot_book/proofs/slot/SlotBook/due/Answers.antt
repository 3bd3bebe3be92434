use Rattle.std.proofs.Common.{◌≤◌, length, vec_items, sym, ap, arith}
use Rattle.std.proofs.lemmas.List.{get_or_past}
use Rattle.std.proofs.lemmas.Int.{ints}
use Rattle.slot_book.specs.Slot.{slot_boundaries}
use Rattle.slot_book.proofs.Books.{Read, length_dues, read_in}
use Rattle.slot_book.proofs.slot.SlotBook.due.Goals.{After-start}
use Rattle.slot_book.proofs.slot.SlotBook.due.Goals as goal

pub returns-in_default : goal.returns-in_default
returns-in_default c =
    let b = c.args.self.now in
    let lent = c.deref.ensures.value in
    let past : length (vec_items b.spans) ≤ c.args.place = rw lent at c.in_default.ensures.lookup.3 in
    ap (λ b. b.due)
    (sym (get_or_past (slot_boundaries b) c.args.place _ (omega (arith, length_dues b.time.clock (vec_items b.spans)))))

read : (c : After-start) → Read c.args.self.now c.in-Some.span.now c.args.place
read c =
    let lent = c.deref.ensures.value in
    let held = c.in-Some.ensures.lookup.3 in
    read_in c.args.self.now c.in-Some.span.now c.args.place (rw lent at held.0) (rw lent at (held.1 c.in-Some.span.now))

pub used-requires : goal.used-requires
used-requires c =
    let x = read (goal.at.used-requires c).After-start in
    record { wide = omega (arith, x.wide, c.start.ensures); some = omega (arith, ints, x.spare, c.start.ensures) }

pub overflow_sub-result : goal.overflow_sub-result
overflow_sub-result c =
    omega (
      arith,
      ints,
      (read (goal.at.overflow_sub-result c).After-start).spare,
      c.start.ensures,
      c.used.ensures,
      c.lacking.ensures,
    )

pub returns : goal.returns
returns c =
    omega (
      arith,
      ints,
      (read (goal.at.returns c).After-start).spare,
      c.start.ensures,
      c.used.ensures,
      c.lacking.ensures,
    )
