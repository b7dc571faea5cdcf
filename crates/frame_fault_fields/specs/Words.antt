-- The words of the refusals that reading a frame answers.
use Rattle.std.specs.Prelude.{ℕ, List, [], ◌∷◌}
use Prim.Native.String.{String}
use Rattle.msgpack_first_bytes.specs.Bytes.{Bytes}
use Rattle.frame_listing_fields.specs.Names.{Name, name_in}

abbrev refusal : ℕ → String → Name
refusal n w = record { code = n; name = w }

-- the numbers 1 to 10, each with the words that `lak_words` of the C header has for it
unfoldable pub refusals : List Name
refusals =
    refusal 1 "the frame has not all come"
    ∷ refusal 2 "the first byte starts no size number"
    ∷ refusal 3 "the size is 0 or above 60,000"
    ∷ refusal 4 "a value is broken, runs past its bytes or is too deep"
    ∷ refusal 5 "bytes remain after the body"
    ∷ refusal 6 "header or body is not a map, or a key is not 0 to 127"
    ∷ refusal 7 "a key stands twice"
    ∷ refusal 8 "the code is absent, not unsigned or unknown"
    ∷ refusal 9 "a known key holds a wrong type or range"
    ∷ refusal 10 "a required key of the body is absent"
    ∷ []

-- a refusal's words; nothing for a number that reading a frame never answers
unfoldable pub words_of : ℕ → Bytes
words_of n = name_in refusals n
