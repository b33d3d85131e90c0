-- The mark that a role of the code stands for.
use Rattle.figures.specs.Flat.{Mark, plain, sure_rest, opens, closes}
use Rattle.stretch.specs.declared.Role.{Role}
use Rattle.stretch.specs.declared.Role.TheVariants.{Other, SureRest, Loop, End}

-- the mark that the code's `Role` stands for
abbrev pub marked : Role → Mark
marked Other = plain
marked SureRest = sure_rest
marked (Loop n) = opens n
marked End = closes
