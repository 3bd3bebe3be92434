-- The day of the account: what its orders leave, and how it ends.
use Rattle.capacity.specs.Calls.{owe_leaves, forgive_leaves}
use Rattle.capacity.specs.Meaning.{Meaning}
use Rattle.figures.specs.Figures.{worked_later}

-- 3 slots more owed at 12, then 4 more, and then the 3 forgiven.
abbrev pub orders_leave : Meaning → Meaning
orders_leave m = forgive_leaves (owe_leaves (owe_leaves m 12 3) 12 4) 12 3

-- The worked example after three slots for 12 and one for nobody, whose spares are a worked figure.
unfoldable pub day_end : Meaning
day_end = worked_later
