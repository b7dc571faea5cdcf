-- The writer's answer with operation 0.
use mathlib.Core.Path.{ap}
use Rattle.laksubinat.specs.Shown.{result_of}
use Rattle.laksubinat.proofs.lak_frame_write.Goals as goal

pub returns : goal.returns
returns c = unfold result_of in ap result_of c.write_frame-written.ensures
