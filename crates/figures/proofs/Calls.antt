-- A call of a function that requires nothing. Assumes nothing.

-- the answer to what such a call asks
pub free {ℓ ℓ'} : {A : Type ℓ} {B : Type ℓ'} → A → B → Unit {0}
free c κs = tt
