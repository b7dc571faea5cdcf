-- Two words of all the definitions above: a string of bytes, and a choice by a test.
use Rattle.std.specs.Prelude.{ℕ, Bool, true, false, List}

-- bytes in their order; what a slice of the code holds
abbrev pub Bytes : Type 0
Bytes = List ℕ

-- the first where the test holds, else the second
abbrev pub pick {ℓ} : {A : Type ℓ} → Bool → A → A → A
pick true a b = a
pick false a b = b
