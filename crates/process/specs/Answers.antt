-- The answers of the runner's calls, as the code's aliases have them: what an event or a gulp took, or why it is refused.
use Rattle.std.specs.Prelude.{Result}
use Rattle.process.specs.declared.Copies.{Copies}
use Rattle.process.specs.declared.Gulp.{Gulp}
use Rattle.process.specs.declared.RunRefusal.{RunRefusal}

abbrev pub Taken : Type 0
Taken = Result (Unit {0}) RunRefusal

abbrev pub Received : Type 0
Received = Result Copies RunRefusal

abbrev pub Gulped : Type 0
Gulped = Result Gulp RunRefusal
