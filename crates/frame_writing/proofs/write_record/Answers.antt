-- Each refusal in its order, then the bytes.
use mathlib.Core.Path.{ap, ◌∙◌}
use mathlib.Core.Bool.{◌&&◌}
use Rattle.frames.specs.Held.{suits as suitsRule, Item}
use Rattle.frames.specs.Keys.{header_items, body_items}
use Rattle.frames.specs.Writing.{sound as soundHeld}
use Rattle.frame_judging.specs.declared.Judgement.{Judgement}
use Rattle.frame_judging.proofs.Lengths.{contents-counted}
use Rattle.frame_writing.proofs.Calls.{Judged, both, code_unknown, code_known, call_8, call_4, call_9, call_10, call_3, sized, call_18, room, call_0}
use Rattle.frame_writing.proofs.write_record.Goals.{After-contents_length-size}
use Rattle.frame_writing.proofs.write_record.Goals as goal

-- what the judgements say
facts : (c : After-contents_length-size)
    → (let r = c.args.frame in let s = c.args.bytes.now in
    let h = c.header_judged-header.result in let g = c.body_judged-body.result in
    Judged r s c.in-Some.keys.now (h.sound && g.sound) (h.suited && g.suited) c.holds_all-there.result c.contents_length-size.result)
facts c =
    let r = c.args.frame in
    let s = c.args.bytes.now in
    let hs = header_items r in
    let bs = body_items r s in
    let h = c.header_judged-header.ensures in
    let g = c.body_judged-body.ensures in
    record {
      known = code_known r.code _ c.in-Some.ensures;
      four = both (λ (x : Item). soundHeld x.held) hs bs (ap (λ (j : Judgement). j.sound) h) (ap (λ (j : Judgement). j.sound) g);
      nine = both (λ (x : Item). suitsRule x.rule x.held) hs bs (ap (λ (j : Judgement). j.suited) h) (ap (λ (j : Judgement). j.suited) g);
      ten = c.holds_all-there.ensures;
      size = c.contents_length-size.ensures ∙ contents-counted r s (ap (λ (j : Judgement). j.length) h) (ap (λ (j : Judgement). j.length) g);
    }

pub returns-in_default : goal.returns-in_default
returns-in_default c = call_8 _ _ _ (code_unknown _ c.in_default.ensures)

pub returns-then-not-sound : goal.returns-then-not-sound
returns-then-not-sound c =
    call_4 _
    (facts (goal.at.returns-then-not-sound c).After-contents_length-size)
    c.if-not-sound.true

pub returns-then-not-suited : goal.returns-then-not-suited
returns-then-not-suited c =
    call_9 _
    (facts (goal.at.returns-then-not-suited c).After-contents_length-size)
    c.if-not-sound.false c.if-not-suited.true

pub returns-then-not-there : goal.returns-then-not-there
returns-then-not-there c =
    call_10 _
    (facts (goal.at.returns-then-not-there c).After-contents_length-size)
    c.if-not-sound.false c.if-not-suited.false c.if-not-there.true

pub returns-then-size-gt-MAX_SIZE : goal.returns-then-size-gt-MAX_SIZE
returns-then-size-gt-MAX_SIZE c =
    call_3 _
    (facts (goal.at.returns-then-size-gt-MAX_SIZE c).After-contents_length-size)
    c.if-not-sound.false c.if-not-suited.false c.if-not-there.false c.if-size-gt-MAX_SIZE.true

pub returns-then-out-size : goal.returns-then-out-size
returns-then-out-size c =
    call_18 _
    (facts (goal.at.returns-then-out-size c).After-contents_length-size)
    c.if-not-sound.false c.if-not-suited.false c.if-not-there.false c.if-size-gt-MAX_SIZE.false c.if-out-size.true

pub put_frame-requires : goal.put_frame-requires
put_frame-requires c =
    let a = c.args in
    let out = a.out.now in
    let f = facts (goal.at.put_frame-requires c).After-contents_length-size in
    let h = c.if-size-gt-MAX_SIZE.false in
    ((sized out f h, (ap (λ (j : Judgement). j.count) c.header_judged-header.ensures, ap (λ (j : Judgement). j.count) c.body_judged-body.ensures)), room out f h c.if-out-size.false)

pub returns : goal.returns
returns c =
    call_0 _
    (facts (goal.at.returns c).After-contents_length-size)
    c.if-not-sound.false c.if-not-suited.false c.if-not-there.false c.if-size-gt-MAX_SIZE.false c.if-out-size.false c.put_frame.ensures
