use Rattle.std.proofs.Common.{◌≡◌, drop, vec_items}
use Rattle.capacity.proofs.Suffixes.{room_from}
use Rattle.plain_book.specs.Latest.{latest}
use Rattle.plain_book.proofs.plain.PlainBook.room.Given as goal

abbrev pub invariant-loop-place : goal.invariant-loop-place
invariant-loop-place l =
    (l.latest ≡ latest l.self.time.horizon (drop l.place (vec_items l.self.boundaries)))
    × (l.room ≡ room_from l.self.time.clock (vec_items l.self.boundaries) l.place l.deadline)
