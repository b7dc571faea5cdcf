-- Inner: what a code requires and what a known key must hold, as the code has them.
use Rattle.std.specs.Prelude.{ℕ, List, get_or, Option as Answer, Some, None}
use Rattle.std.proofs.Math.Option.{Option, none, some}
use Rattle.frames.specs.declared.Line.{Line}
use Rattle.frames.specs.declared.Rule.TheVariants.{Anything}
use Rattle.frames.specs.Codes.{required}
use Rattle.frames.specs.Keys.{line, all_lines}

-- as the code answers it
unfoldable pub answer : {A : Type 0} → Option A → Answer A
answer none = None
answer (some a) = Some a

unfoldable pub needs_of : ℕ → Answer (List ℕ)
needs_of c = answer (required c)

-- the i-th known key, header and then body; past the last, key 0 and no rule
abbrev pub no_line : Line
no_line = line 0 Anything

unfoldable pub line_at : ℕ → Line
line_at i = get_or all_lines i no_line
