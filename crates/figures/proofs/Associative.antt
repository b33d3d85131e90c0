-- `join` is associative, for all figures. Assumes nothing.
use mathlib.Core.Path.{◌≡◌, refl}
use mathlib.Core.Bool.{Bool, true, false, cond, ◌||◌}
use Prim.Native.Nat.{ℕ, ◌+◌, max, ◌≤◌}
use native.Mathlib.Omega.{arith}
use native.Mathlib.Nat.{max-le, le_antisymm}
use Rattle.figures.specs.declared.Figures.{Figures}
use Rattle.figures.specs.Figures.{fig, join}

-- figures are equal where their five parts are
pub fig_path : {r r' e e' : Bool} {f f' l l' g g' : ℕ} → r ≡ r' → e ≡ e' → f ≡ f' → l ≡ l' → g ≡ g' → fig r e f l g ≡ fig r' e' f' l' g'
fig_path pr pe pf pl pg = λ i. fig (pr i) (pe i) (pf i) (pl i) (pg i)

or_assoc : (a b c : Bool) → ((a || b) || c) ≡ (a || (b || c))
or_assoc true b c = refl
or_assoc false b c = refl

first_assoc : (a b : Bool) (x y z : ℕ) → cond (a || b) (cond a x (x + y)) (cond a x (x + y) + z) ≡ cond a x (x + cond b y (y + z))
first_assoc true b x y z = refl
first_assoc false true x y z = refl
first_assoc false false x y z = omega arith

last_assoc : (a b c : Bool) (af al bf bl cf cl : ℕ) →
    cond c cl (cond (a || b) (cond b bl (cond a al af + bf)) (cond a af (af + bf)) + cf)
    ≡ cond (b || c) (cond c cl (cond b bl bf + cf)) (cond a al af + cond b bf (bf + cf))
last_assoc true true true af al bf bl cf cl = refl
last_assoc true false true af al bf bl cf cl = refl
last_assoc false true true af al bf bl cf cl = refl
last_assoc false false true af al bf bl cf cl = refl
last_assoc true true false af al bf bl cf cl = refl
last_assoc true false false af al bf bl cf cl = omega arith
last_assoc false true false af al bf bl cf cl = refl
last_assoc false false false af al bf bl cf cl = omega arith

-- `omega` makes at most six case splits, and each `max` is one: so the order both ways, with the left side's `max` taken apart by `max-le`
split5 : {A B x C y k : ℕ} → A ≤ k → B ≤ k → x ≤ k → C ≤ k → y ≤ k → max (max (max (max A B) x) C) y ≤ k
split5 a b x c y = max-le (max-le (max-le (max-le a b) x) c) y

split5' : {A B C y x k : ℕ} → A ≤ k → B ≤ k → C ≤ k → y ≤ k → x ≤ k → max (max A (max (max B C) y)) x ≤ k
split5' a b c y x = max-le (max-le a (max-le (max-le b c) y)) x

longest_rest : (A B C x y : ℕ) → max (max (max (max A B) x) C) y ≡ max (max A (max (max B C) y)) x
longest_rest A B C x y =
    le_antisymm (split5 (omega arith) (omega arith) (omega arith) (omega arith) (omega arith))
    (split5' (omega arith) (omega arith) (omega arith) (omega arith) (omega arith))

longest_flat : (A B C l f c : ℕ) → max (max (max (max A B) (l + f)) C) (l + f + c) ≡ max (max A (max (max B C) (f + c))) (l + (f + c))
longest_flat A B C l f c =
    le_antisymm (split5 (omega arith) (omega arith) (omega arith) (omega arith) (omega arith))
    (split5' (omega arith) (omega arith) (omega arith) (omega arith) (omega arith))

longest_assoc : (a b : Bool) (af al ag bf bl bg cf cg : ℕ) →
    max (max (max (max ag bg) (cond a al af + bf)) cg) (cond (a || b) (cond b bl (cond a al af + bf)) (cond a af (af + bf)) + cf)
    ≡ max (max ag (max (max bg cg) (cond b bl bf + cf))) (cond a al af + cond b bf (bf + cf))
longest_assoc true true af al ag bf bl bg cf cg = longest_rest ag bg cg (al + bf) (bl + cf)
longest_assoc false true af al ag bf bl bg cf cg = longest_rest ag bg cg (af + bf) (bl + cf)
longest_assoc true false af al ag bf bl bg cf cg = longest_flat ag bg cg al bf cf
longest_assoc false false af al ag bf bl bg cf cg = longest_flat ag bg cg af bf cf

assoc_parts : (ae be ar br cr ce : Bool) (af al ag bf bl bg cf cl cg : ℕ) →
    join (join (fig ar ae af al ag) (fig br be bf bl bg)) (fig cr ce cf cl cg)
    ≡ join (fig ar ae af al ag) (join (fig br be bf bl bg) (fig cr ce cf cl cg))
unfolding join
assoc_parts false be ar br cr ce af al ag bf bl bg cf cl cg = refl
assoc_parts true false ar br cr ce af al ag bf bl bg cf cl cg = refl
assoc_parts true true ar br cr ce af al ag bf bl bg cf cl cg =
    fig_path (or_assoc ar br cr) refl (first_assoc ar br af bf cf) (last_assoc ar br cr af al bf bl cf cl) (longest_assoc ar br af al ag bf bl bg cf cg)

pub join_assoc : (a b c : Figures) → join (join a b) c ≡ join a (join b c)
join_assoc a b c = assoc_parts a.ends b.ends a.rests b.rests c.rests c.ends a.first a.last a.longest b.first b.last b.longest c.first c.last c.longest
