-- The day of the worked example ends as the figures say. Its numbers stand here as the figures have them, so that the program's are
-- held to them.
use Rattle.std.proofs.Common.{◌≡◌, [], ◌∷◌, Some, None, refl, ap, ◌∙◌}
use Rattle.capacity.specs.Calls.{cleared}
use Rattle.capacity.specs.Filled.{filled, ran}
use Rattle.capacity.specs.Meaning.{Meaning}
use Rattle.figures.specs.Figures.{worked}
use Rattle.account.specs.Day.{orders_leave, day_end}

-- the orders leave the book as it was
orders_undone : orders_leave worked ≡ worked
orders_undone = refl

pub day_ends :
    (entered asked ordered passed printed : Meaning) →
    entered
    ≡ filled (cleared 12)
    (record { end = 6; due = 2 } ∷ record { end = 8; due = 1 } ∷ record { end = 10; due = 1 } ∷ record { end = 12; due = 5 } ∷ []) →
    asked ≡ entered →
    ordered ≡ orders_leave asked →
    passed ≡ ran ordered (Some 12 ∷ Some 12 ∷ Some 12 ∷ None ∷ []) →
    printed ≡ passed →
    printed ≡ day_end
unfolding day_end
day_ends entered asked ordered passed printed fills asks orders runs prints =
    let full : ordered ≡ worked = orders ∙ ap orders_leave (asks ∙ fills) ∙ orders_undone in
    prints ∙ runs ∙ ap (λ m. ran m (Some 12 ∷ Some 12 ∷ Some 12 ∷ None ∷ [])) full
