-- Inner: what is asked of a run of known keys.
use Rattle.std.specs.Prelude.{List, length}
use Rattle.frames.specs.Held.{all, suits, Item}
use Rattle.frames.specs.Writing.{sound, pairs}
use Rattle.frame_items.specs.Content.{capped}
use Rattle.frame_judging.specs.Parts.{pair_bytes}
use Rattle.frame_judging.specs.declared.Judgement.{Judgement}

-- 4, 9, how many pairs are written, and their bytes, counted up to one more than a frame has
abbrev pub judgement_of : List Item → Judgement
judgement_of xs =
    record {
      sound = all (λ (x : Item). sound x.held) xs;
      suited = all (λ (x : Item). suits x.rule x.held) xs;
      count = length (pairs xs);
      length = capped (length (pair_bytes xs));
    }
