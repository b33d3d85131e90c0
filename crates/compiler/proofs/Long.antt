-- A text that is too long is refused. Assumes nothing.
use Prim.Native.Nat.{ℕ, ◌<◌}
use mathlib.Core.Path.{◌≡◌}
use mathlib.Core.List.{List}
use lib.ListN.{length}
use borrow.Author.Tests.{lt-leb}
use Rattle.language.specs.declared.TextFault.TheVariants.{TextTooLong}
use Rattle.language.specs.Limits.{text_limit}
use Rattle.language.specs.Draft.{refused_whole, result_of}
use Rattle.language.specs.Answer.{answered, script_from, compiled}

pub too_long : (s : List ℕ) → text_limit < length s → compiled s ≡ answered (refused_whole TextTooLong 0)
unfolding compiled script_from result_of
too_long s h = rw (lt-leb (length s) text_limit h)
