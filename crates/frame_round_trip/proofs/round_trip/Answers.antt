-- The theorem.
use Rattle.frame_round_trip.proofs.Trip.{round_trip}
use Rattle.frame_round_trip.proofs.round_trip.Goals as goal

pub returns : goal.returns
returns c = round_trip
