-- Words. "Words are parted by spaces or tabs; those at a line's end are ignored, except in text data and LOG text."
use Rattle.std.specs.Prelude.{ℕ, suc, ◌+◌, ◌-◌, Bool, cond, List, [], ◌∷◌, length, take, drop}
use Rattle.reader.specs.Bytes.{is_blank, same}

-- the bytes after the spaces and tabs at the front, and how many those are
unfoldable pub skip : List ℕ → List ℕ
skip [] = []
skip (b ∷ l) = cond (is_blank b) (skip l) (b ∷ l)

-- how many spaces and tabs are at the front
unfoldable pub blanks : List ℕ → ℕ
blanks [] = 0
blanks (b ∷ l) = cond (is_blank b) (suc (blanks l)) 0

-- the first word, up to the next space or tab or the end; how long it is; and what follows it
unfoldable pub word_of : List ℕ → List ℕ
word_of [] = []
word_of (b ∷ l) = cond (is_blank b) [] (b ∷ word_of l)

-- how long the first word is
unfoldable pub word_length : List ℕ → ℕ
word_length [] = 0
word_length (b ∷ l) = cond (is_blank b) 0 (suc (word_length l))

-- what follows the first word
unfoldable pub after_word : List ℕ → List ℕ
after_word [] = []
after_word (b ∷ l) = cond (is_blank b) (b ∷ l) (after_word l)

-- a byte in front of what is left of the bytes after it, once the spaces and tabs at their end are gone
unfoldable pub before_end : ℕ → List ℕ → List ℕ
before_end b [] = cond (is_blank b) [] (b ∷ [])
before_end b (c ∷ l) = b ∷ c ∷ l

-- "those at a line's end are ignored": without the spaces and tabs at the end
unfoldable pub trim_end : List ℕ → List ℕ
trim_end [] = []
trim_end (b ∷ l) = before_end b (trim_end l)

-- what a name is followed by, where it is no text: the spaces and tabs around it are ignored
unfoldable pub argument : List ℕ → List ℕ
argument l = trim_end (skip l)

-- ---- at a place of some bytes

-- the place of the first byte from `at` on that is no space or tab
unfoldable pub after_blanks : List ℕ → ℕ → ℕ
after_blanks s at = at + blanks (drop at s)

-- the place where the word at `at` ends
unfoldable pub word_end : List ℕ → ℕ → ℕ
word_end s at = at + word_length (drop at s)

-- the end of a line without the spaces and tabs at its end
unfoldable pub trimmed_end : List ℕ → ℕ
trimmed_end s = length (trim_end s)

-- the bytes from one place to another are this name
unfoldable pub is_named : List ℕ → ℕ → ℕ → List ℕ → Bool
is_named s from to name = same (take (to - from) (drop from s)) name
