-- Demand 3: in every sequence, what is taken back is the plain form of what was given. Assumes nothing.
use mathlib.Core.Path.{◌≡◌, refl, ap, ◌∙◌, subst}
use mathlib.Core.List.{List, [], ◌∷◌}
use mathlib.Core.Option.{some}
use Prim.Native.Nat.{ℕ, suc}
use native.Mathlib.Omega.{arith}
use lib.ListN.{length}
use Rattle.msgpack_first_bytes.specs.Bytes.{Bytes}
use Rattle.tuples.specs.Tuple.{Fields, plain, fields_of}
use Rattle.tuples.specs.Call.{Outcome, refusal, bytes, update, undo, delivered, with_place, update_call, undo_call}
use Rattle.tuples.specs.Sequence.{Event, updating, taking_back, OnPile, State, start, on_answer, goes_in, take_back_call, after_taking_back, state_after, state_after_all, Holds, EachHolds, Demand3}
use Rattle.tuples.proofs.Tuple.{fields-legal, read_plain}
use Rattle.tuples.proofs.Calls.{TakesBack, went_in, no_place_lem, by_answer}

-- ---- an update that went in

unchanged : {A : Type 0} (top : OnPile) (pile : List OnPile) → pile ≡ top ∷ pile → A
unchanged top pile h = let e : length pile ≡ suc (length pile) = ap length h in absurd (omega arith)

laid_on : (s : State) (top : OnPile) (u : Outcome) (w : Bytes) → (goes_in s u w).pile ≡ top ∷ s.pile → u ≡ bytes top.list
unfolding goes_in
laid_on s top (refusal k i) w h = unchanged top s.pile h
laid_on s top (bytes u) w h = let e : record { list = u; given = s.tuple } ≡ top = cc in ap (λ (x : OnPile). bytes x.list) e

module _ (first : Fields) where
  -- each list of the pile takes the fields above it to those of the tuple that its update was given
  abbrev Chain : Fields → List OnPile → Type 0
  Chain cur [] = cur ≡ first
  Chain cur (x ∷ below) = (fs : Fields) × (fields_of x.given ≡ some fs) × TakesBack x.list cur fs × Chain fs below

  -- what holds between the events of a sequence
  record Sure (s : State) : Type 0 where
    cur : Fields
    reads : fields_of s.tuple ≡ some cur
    chain : Chain cur s.pile

  module _ (s : State) (k : Sure s) where
    goes_in_sure : (l : Bytes) (b : ℕ) (u : Outcome) → undo s.tuple l b ≡ u → (w : Bytes) → update s.tuple l b ≡ bytes w → Sure (goes_in s u w)
    unfolding goes_in
    goes_in_sure l b (refusal r i) q w e = k
    goes_in_sure l b (bytes u) q w e =
        let x = went_in s.tuple l b w u e q in
        let c : k.cur ≡ x.fs = cc (k.reads, x.read) in
        record {
          cur = x.gs;
          reads = ap fields_of x.output ∙ read_plain x.gs x.legal;
          chain = (x.fs, x.read, x.back, subst (λ (fs : Fields). Chain fs s.pile) c k.chain);
        }

    top-plain : (x : OnPile) (below : List OnPile) (out : Bytes) (c : Chain k.cur (x ∷ below)) → take_back_call s x out ≡ delivered (bytes (plain c.0)) out
    unfolding update_call
    top-plain x below out c =
        ap (λ (o : Outcome). with_place s.tuple x.list (delivered o out)) (c.2 s.tuple k.reads) ∙ no_place_lem s.tuple x.list (plain c.0) out

    takes_back_sure : (pile : List OnPile) (out : Bytes) → Chain k.cur pile → Sure (after_taking_back s pile out)
    unfolding after_taking_back
    takes_back_sure [] out c = k
    takes_back_sure (x ∷ below) out c =
        rw (top-plain x below out c) (by_answer Sure (bytes (plain c.0)) out s _ k (λ w e.
        let o : w ≡ plain c.0 = cc in
        record { cur = c.0; reads = ap fields_of o ∙ read_plain c.0 (fields-legal x.given c.0 c.1); chain = c.3 }))

  after_sure : (s : State) (e : Event) → Sure s → Sure (state_after s e)
  unfolding state_after update_call with_place on_answer
  after_sure s (updating l b out) k =
      by_answer Sure (update s.tuple l b) out s (goes_in s (undo s.tuple l b)) k (goes_in_sure s k l b (undo s.tuple l b) refl)
  after_sure s (taking_back out) k = takes_back_sure s k s.pile out k.chain

  holds : (s : State) (e : Event) → Sure s → Holds s e
  unfolding state_after update_call undo_call with_place on_answer
  holds s (updating l b out) k = λ top h room.
      let q = by_answer (λ (x : State). x.pile ≡ top ∷ s.pile → undo s.tuple l b ≡ bytes top.list) (update s.tuple l b) out s
      (goes_in s (undo s.tuple l b)) (λ e. unchanged top s.pile e) (λ w _. laid_on s top (undo s.tuple l b) w) in
      ap (λ (o : Outcome). with_place s.tuple l (delivered o room)) (q h) ∙ no_place_lem s.tuple l top.list room
  holds s (taking_back out) k = λ top below h.
      let c : Chain k.cur (top ∷ below) = subst (Chain k.cur) h k.chain in
      (c.0, c.1, top-plain s k top below out c)

  each_holds : (es : List Event) (s : State) → Sure s → EachHolds s es
  each_holds [] s k = tt
  each_holds (e ∷ es) s k = (holds s e k, each_holds es (state_after s e) (after_sure s e k))

  all_sure : (es : List Event) (s : State) → Sure s → Sure (state_after_all s es)
  unfolding state_after_all
  all_sure [] s k = k
  all_sure (e ∷ es) s k = all_sure es (state_after s e) (after_sure s e k)

pub demand_3 : (t : Bytes) (fs : Fields) (es : List Event) → fields_of t ≡ some fs → Demand3 t fs es
unfolding start
demand_3 t fs es h =
    let k : Sure fs (start t) = record { cur = fs; reads = h; chain = refl } in
    let z = all_sure fs es (start t) k in
    record { each = each_holds fs es (start t) k; emptied = λ e. let c : z.cur ≡ fs = subst (Chain fs z.cur) e z.chain in z.reads ∙ ap some c }
