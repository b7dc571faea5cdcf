-- A number and its words.
use Rattle.frame_listing_fields.specs.Text.{text, decimal}
use Rattle.frame_fault_fields.specs.Words.{words_of}
use Rattle.frame_fault.specs.Fault.{refused_line}
use Rattle.frame_fault_fields.proofs.Laying.{piece, also}
use Rattle.frame_fault.proofs.Lines.{twice}
use Rattle.frame_fault.proofs.write_refused.Goals as goal

pub returns : goal.returns
unfolding refused_line
returns c =
    let a = c.args in
    rw (twice (text "refused  ") (decimal a.number) (text ", ") (words_of a.number) (text "\n")) at
    (also (rw c.from.ensures at c.write_counted-to.ensures) (also (piece (words_of a.number) c.write_words-to.ensures) (piece (text "\n") c.write_bytes.ensures)))
