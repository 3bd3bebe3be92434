use Rattle.std.proofs.Common.{rules}
use Rattle.capacity.specs.Places.{Stands}
use Rattle.capacity.proofs.Keeps.{boundary_later}
use Rattle.slot_book.specs.Slot.{slot_boundaries}
use Rattle.slot_book.proofs.lines.SlotBookBook.owe.Goals as goal

pub room-requires : goal.room-requires
room-requires c =
    let book = c.args.self.now in
    let at : Stands (slot_boundaries book) c.args.deadline c.in_ok-place.place = search rules in
    boundary_later book.time.clock (slot_boundaries book) book.time.horizon c.args.deadline book.ordered at.held
