-- How deep a fragment nests, fragments end to end, and the marks of a fragment.
use Rattle.std.specs.Prelude.{ℕ, suc, max, List, [], ◌∷◌, ◌++◌}
use Rattle.figures.specs.Fragment.{Fragment, stop, other, rest, loop}
use Rattle.figures.specs.Flat.{Mark, plain, sure_rest, opens, closes}

-- "8 loops deep": how many loops are open at once
unfoldable pub depth : Fragment → ℕ
depth stop = 0
depth (other p) = depth p
depth (rest p) = depth p
depth (loop n b p) = max (suc (depth b)) (depth p)

-- fragments "joined end to end": q after p
unfoldable pub glue : Fragment → Fragment → Fragment
glue stop q = q
glue (other p) q = other (glue p q)
glue (rest p) q = rest (glue p q)
glue (loop n b p) q = loop n b (glue p q)

-- the marks of a fragment
unfoldable pub marks : Fragment → List Mark
marks stop = []
marks (other p) = plain ∷ marks p
marks (rest p) = sure_rest ∷ marks p
marks (loop n b p) = opens n ∷ (marks b ++ (closes ∷ marks p))
