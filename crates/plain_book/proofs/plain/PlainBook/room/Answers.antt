use Rattle.std.proofs.Common.{arith, rules}
use Rattle.capacity.proofs.Suffixes.{room_from_le}
use Rattle.plain_book.proofs.Headroom.{headroom_is}
use Rattle.plain_book.proofs.Latest.{turn}
use Rattle.plain_book.proofs.plain.PlainBook.room.Goals as goal

pub loop-place-preserved : goal.loop-place-preserved
loop-place-preserved c =
    let t = turn c.args.self.now _ c.loop-place.place c.args.deadline (search rules) (search rules) c.index.ensures in
    (grind (arith, t), grind (arith, t))

pub overflow_add-room : goal.overflow_add-room
overflow_add-room c =
    let t = turn c.args.self.now _ c.loop-place.place c.args.deadline (search rules) (search rules) c.index.ensures in
    grind (arith, t, room_from_le)

pub returns : goal.returns
returns c = grind (arith, headroom_is)
