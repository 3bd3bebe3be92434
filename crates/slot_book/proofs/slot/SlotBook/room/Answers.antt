use Rattle.std.proofs.Common.{◌+◌, ◌≤◌, arith, rules}
use Rattle.slot_book.proofs.Rooms.{sum_ends, sum_more, sum_all, headroom_small}
use Rattle.slot_book.proofs.slot.SlotBook.room.Goals as goal

pub overflow_add-result : goal.overflow_add-result
overflow_add-result c =
    let sum =
    sum_ends _ _ _ _ _ _ _ _ c.loop-span.invariant c.loop-span-test.true c.deref-span-items.ensures.value c.span.view_is
    c.span-item.is c.if-deadline-span.true
    in
    let small : c.loop-span.room + c.free_before.result ≤ 1000000 =
    omega (arith, headroom_small c.args.self.now c.args.deadline (omega (arith, c.requires)))
    in
    search rules

pub returns-then-deadline-span : goal.returns-then-deadline-span
returns-then-deadline-span c =
    omega (
      arith,
      c.free_before.ensures,
      sum_ends _ _ _ _ _ _ _ _ c.loop-span.invariant c.loop-span-test.true c.deref-span-items.ensures.value
          c.span.view_is c.span-item.is c.if-deadline-span.true,
    )

pub overflow_add-room : goal.overflow_add-room
overflow_add-room c =
    let more =
    sum_more _ _ _ _ _ _ _ _ c.loop-span.invariant c.loop-span-test.true c.deref-span-items.ensures.value c.span.view_is
    c.span-item.is c.if-deadline-span.false
    in
    let small : c.loop-span.room + c.free-room.result ≤ 1000000 =
    omega (arith, more.sum, headroom_small c.args.self.now c.args.deadline (omega (arith, c.requires)))
    in
    search rules

pub loop-span-preserved : goal.loop-span-preserved
loop-span-preserved c =
    rw
    c.free-room.ensures
    (sum_more _ _ _ _ _ _ _ _ c.loop-span.invariant c.loop-span-test.true c.deref-span-items.ensures.value
    c.span.view_is c.span-item.is c.if-deadline-span.false)

pub returns : goal.returns
returns c = sum_all _ _ _ _ _ _ c.loop-span.invariant c.loop-span-test.false c.deref-span-items.ensures.value
