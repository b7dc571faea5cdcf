-- What `all` answers of the keys.
use Rattle.std.proofs.Common.{ℕ, rules, tests}
use Rattle.std.proofs.lemmas.Iterator.{YieldsList-from_slice}
use Rattle.std.proofs.lemmas.Iterator.Search.{all_from_yields_List}
use Rattle.frames.specs.Held.{encoded, is_some, locate}
use Rattle.frames.specs.Keys.{body_items}
use Rattle.frame_judging.proofs.holds_all.Goals as goal

pub returns : goal.returns
returns c =
    let a = c.args in
    all_from_yields_List (λ (k : ℕ). is_some (encoded (locate (body_items a.frame a.bytes.now) k))) _ _ _ c.all.ensures.ran (YieldsList-from_slice a.keys.now cc) (λ x b q k. search (rules, tests))
