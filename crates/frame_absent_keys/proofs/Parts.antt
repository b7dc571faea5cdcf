-- Reading in two parts is reading. Assumes nothing.
use Rattle.std.specs.Prelude.{Ok, Err}
use Prim.Native.Nat.{ℕ, ◌+◌}
use mathlib.Core.Path.{◌≡◌, refl}
use mathlib.Core.Bool.{Bool, true, false, ◌||◌}
use mathlib.Core.List.{List, [], ◌∷◌}
use mathlib.Core.Option.{Option, none, some}
use lib.Dec.{eqb}
use lib.ListN.{take}
use Rattle.msgpack_first_bytes.specs.Bytes.{Bytes, pick}
use Rattle.msgpack_values.specs.Value.{Read}
use Rattle.frames.specs.declared.FrameAnswer.{FrameAnswer}
use Rattle.frames.specs.Reading.{Size, refuse, by_places, by_entries, broken, in_frame, size_of, by_size, frame_read}
use Rattle.frames.specs.Codes.{required}
use Rattle.frames.specs.Cascade.{check, given, whole}
use Rattle.frames.specs.Maps.{Entry, keys, has, placed, find}
use Rattle.frame_absent_keys.specs.Apart.{Apart, stops, breaks, maps, contents_apart, apart_by, apart, read_by}

pub find-has : (es : List Entry) (k : ℕ) → (find es k).present ≡ has k (keys es)
unfolding find has keys
find-has [] k = refl
find-has (e ∷ es) k = go (eqb k e.key) (find-has es k)
  where
    go : (b : Bool) → (find es k).present ≡ has k (keys es) → (pick b (placed e.start e.length) (find es k)).present ≡ (b || has k (keys es))
    go true h = refl
    go false h = h

record Reads (a : Apart) (r : FrameAnswer) : Type 0 where
  is : read_by required a ≡ r

stopped : (n : ℕ) → Reads (stops n) (refuse n)
stopped n = record { is = unfold read_by refuse in refl }

spoiled : (s : Bytes) (at : ℕ) → Reads (breaks s at) (broken s at)
spoiled s at = record { is = unfold read_by broken in refl }

taken : (s : Bytes) (hs bs : List Entry) → Reads (maps s hs bs) (by_places required s (find hs) (find bs))
taken s hs bs = record { is = unfold read_by in refl }

-- a step of both is the refusal of both, or what comes next in both
check-alike : {x y : Apart} {u v : FrameAnswer} (b : Bool) → Reads x u → Reads y v → Reads (check x b y) (check u b v)
unfolding check
check-alike true p q = q
check-alike false p q = p

given-alike : {A : Type 0} {x : Apart} {y : A → Apart} {u : FrameAnswer} {v : A → FrameAnswer} (o : Option A)
    → Reads x u → ((a : A) → Reads (y a) (v a)) → Reads (given x o y) (given u o v)
unfolding given
given-alike none p q = p
given-alike (some a) p q = q a

whole-alike : {x : Apart} {y : ℕ → Apart} {u : FrameAnswer} {v : ℕ → FrameAnswer} (r : Read)
    → Reads x u → ((n : ℕ) → Reads (y n) (v n)) → Reads (whole x r y) (whole u r v)
unfolding whole
whole-alike (Ok n) p q = q n
whole-alike (Err n) p q = p

in_frame_lem : (s : Bytes) (at : ℕ) → Reads (contents_apart s at) (in_frame s at)
unfolding contents_apart in_frame by_entries
in_frame_lem s at =
    whole-alike _ (spoiled s at) (λ h.
    whole-alike _ (spoiled s (at + h)) (λ b.
    check-alike _ (stopped 5) (
    given-alike _ (stopped 6) (λ hs.
    given-alike _ (stopped 6) (λ bs.
    check-alike _ (stopped 7) (taken s hs bs))))))

pub reads : (s : Bytes) → read_by required (apart s) ≡ frame_read s
unfolding apart apart_by frame_read by_size
reads s = (go (size_of s)).is
  where
    go : (z : Size) → Reads (apart_by s z) (by_size s z)
    go (Err (n, k)) = stopped n
    go (Ok (n, k)) = check-alike _ (stopped 1) (in_frame_lem (take (k + n) s) k)
