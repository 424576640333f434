-- A chain leaves no times, and the latest times are one. Assumes nothing.
use Rattle.signed.proofs.Parts.{equal}
use Rattle.network.specs.Theorems.{ChainsRefuteTimes, LatestTimesAreOne}
use Rattle.network.proofs.Refuting.{refuted}

pub chains_refute_times : ChainsRefuteTimes
chains_refute_times w l ks t c k = refuted w t l ks c k

pub latest_times_are_one : LatestTimesAreOne
latest_times_are_one n w s t x y v z = equal (y.latest s x.keeps x.none v z) (x.latest t y.keeps y.none v z)
