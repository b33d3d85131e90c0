-- A fragment as it stands written: one mark for each statement, with LOOP and END among them. Assumes nothing: these are definitions.
use Rattle.std.specs.Prelude.{Bool, true, false, cond, List, [], ◌∷◌, ℕ, zero, suc, ltb}
use Rattle.figures.specs.Fragment.{Fragment, stop, other, rest, loop}

-- What the stretch needs of a statement: it is a sure rest, LOOP n, END, or any other (a signal wait too).
pub data Mark : Type 0 where
  plain : Mark
  sure_rest : Mark
  opens : ℕ → Mark
  closes : Mark

-- Marks are read as a stack of fragments: the one that starts here, the one after its END, and so on. The first of them:
abbrev pub here : List Fragment → Fragment
here [] = stop
here (p ∷ ps) = p

-- the stack after the END of the first
abbrev pub beyond : List Fragment → List Fragment
beyond [] = []
beyond (p ∷ ps) = ps

-- a mark put before the stack; "#END closes the innermost loop"
unfoldable pub mark_before : Mark → List Fragment → List Fragment
mark_before plain ps = other (here ps) ∷ beyond ps
mark_before sure_rest ps = rest (here ps) ∷ beyond ps
mark_before (opens n) ps = loop n (here ps) (here (beyond ps)) ∷ beyond (beyond ps)
mark_before closes ps = stop ∷ ps

-- the stack of a list of marks, read from its end
unfoldable pub fragments : List Mark → List Fragment
fragments [] = []
fragments (m ∷ ms) = mark_before m (fragments ms)

-- the fragment that the marks start with
abbrev pub fragment : List Mark → Fragment
fragment ms = here (fragments ms)

-- "8 loops deep"
abbrev pub deepest : ℕ
deepest = 8

-- "ninth open loop", "END with none open", "loop open at .. the end of text": with `opened` loops open none of the three comes
unfoldable pub marks_nest : ℕ → List Mark → Bool
marks_nest opened (plain ∷ ms) = marks_nest opened ms
marks_nest opened (sure_rest ∷ ms) = marks_nest opened ms
marks_nest opened (opens n ∷ ms) = cond (ltb opened deepest) (marks_nest (suc opened) ms) false
marks_nest zero (closes ∷ ms) = false
marks_nest (suc opened) (closes ∷ ms) = marks_nest opened ms
marks_nest zero [] = true
marks_nest (suc opened) [] = false
