-- Updates and takings back in any sequence: 01, "Demand 3 in full".
use Rattle.std.specs.Prelude.{ℕ, ◌≡◌, List, [], ◌∷◌, eqb, take}
use Rattle.std.proofs.Math.Option.{some}
use Rattle.msgpack_first_bytes.specs.Bytes.{Bytes, pick}
use Rattle.tuples.specs.Tuple.{Fields, plain, fields_of}
use Rattle.tuples.specs.Call.{Outcome, refusal, bytes, undo, Result, delivered, update_call, undo_call}

-- "A sequence holds any number of updates and takings back, also none, in any order": a list of these
pub data Event : Type 0 where
  updating : Bytes → ℕ → Bytes → Event  -- "any list, index base and output buffer"
  taking_back : Bytes → Event  -- "any output buffer"

-- an undo list on the pile, and beside it "the tuple that its update was given"
pub record OnPile : Type 0 where
  pub list : Bytes
  pub given : Bytes

-- "Each gets the tuple and the pile as the one before left them, and nobody else writes either meanwhile."
pub record State : Type 0 where
  pub tuple : Bytes
  pub pile : List OnPile

-- "It starts from any tuple that 11 does not refuse and an empty pile of undo lists."
unfoldable pub start : Bytes → State
start t = record { tuple = t; pile = [] }

-- the state s, where a call is refused; where it answers 0, the one that `next` makes of "the bytes written"
unfoldable pub on_answer : Result → State → (Bytes → State) → State
on_answer r s next = pick (eqb r.number 0) (next (take r.length r.buffer)) s

-- "It goes in exactly when it answers 0 and the undo list of these inputs, by the rule above, is within demand 3's limits. Then the bytes
-- written become the tuple, and the undo list is laid on the pile. Otherwise both stay."
unfoldable pub goes_in : State → Outcome → Bytes → State
goes_in s (refusal k i) w = s
goes_in s (bytes u) w = record { tuple = w; pile = record { list = u; given = s.tuple } ∷ s.pile }

-- "A taking back is the update call on that tuple with the pile's top list, index base 0 and any output buffer."
abbrev pub take_back_call : State → OnPile → Bytes → Result
take_back_call s top out = update_call s.tuple top.list 0 out

-- "Where it answers 0, the bytes written become the tuple and the top list leaves the pile; refused, both stay. On an empty pile there is
-- no call and nothing changes."
unfoldable pub after_taking_back : State → List OnPile → Bytes → State
after_taking_back s [] out = s
after_taking_back s (top ∷ below) out = on_answer (take_back_call s top out) s (λ w. record { tuple = w; pile = below })

-- "An update is the update call on that tuple with any list, index base and output buffer."
unfoldable pub state_after : State → Event → State
state_after s (updating l b out) = on_answer (update_call s.tuple l b out) s (goes_in s (undo s.tuple l b))
state_after s (taking_back out) = after_taking_back s s.pile out

unfoldable pub state_after_all : State → List Event → State
state_after_all s [] = s
state_after_all s (e ∷ es) = state_after_all (state_after s e) es

-- what is claimed of an event in the state s; with a shorter buffer than is asked for `delivered` says 18, and there is no other refusal
abbrev pub Holds : State → Event → Type 0
-- "The undo call on the inputs of an update that went in, with a buffer at least as long as its undo list, answers 0 and writes exactly
-- that list": one that went in laid `top` on the pile
Holds s (updating l b out) =
    (top : OnPile) → (state_after s (updating l b out)).pile ≡ top ∷ s.pile → (room : Bytes) → undo_call s.tuple l b room ≡ delivered (bytes top.list) room
-- "a taking back whose buffer is at least as long as the plain form of the tuple that its update was given answers 0 and writes exactly
-- that plain form"
Holds s (taking_back out) =
    (top : OnPile) (below : List OnPile) → s.pile ≡ top ∷ below
    → (fs : Fields) × (fields_of top.given ≡ some fs) × (take_back_call s top out ≡ delivered (bytes (plain fs)) out)

-- of each event, in the state that it meets
abbrev pub EachHolds : State → List Event → Type 0
EachHolds s [] = Unit {0}
EachHolds s (e ∷ es) = Holds s e × EachHolds (state_after s e) es

-- "This is one single claim about the whole sequence": of a sequence that starts from the tuple t of the fields fs. And once all that
-- went in are taken back, the fields are those of t
pub record Demand3 (t : Bytes) (fs : Fields) (es : List Event) : Type 0 where
  pub each : EachHolds (start t) es
  pub emptied : (state_after_all (start t) es).pile ≡ [] → fields_of (state_after_all (start t) es).tuple ≡ some fs
