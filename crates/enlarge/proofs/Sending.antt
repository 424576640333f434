-- When a frame that is sent over a link is there, and that this is not much later. Assumes nothing.
use Prim.Native.Nat.{ℕ, ◌+◌}
use mathlib.Core.Path.{◌≡◌, ◌∙◌, ap}
use mathlib.Core.List.{List}
use native.Mathlib.Omega.{arith}
use Rattle.table.specs.Layout.{precision_of}
use Rattle.table.specs.Records.{link_at}
use Rattle.table.specs.declared.Link.{Link}
use Rattle.rules.specs.Times.{wire_time}
use Rattle.rules.specs.Steps.{Timed}
use Rattle.enlarge.specs.Steps.{Sendable, Sent}
use Rattle.enlarge.specs.declared.Wanted.{Wanted}
use Rattle.enlarge.proofs.NewLegs.{sent_on_is}

pub sent : {t : List ℕ} {w : Wanted} {start l wire precision : ℕ} {link : Link} → Sendable t w start l → link ≡ link_at t l → Timed (wire_time w.octets link.rate) wire
    → precision ≡ precision_of t → Sent t w start l (start + wire + link.propagation + precision)
sent {t = t} {w = w} {start = start} {l = l} s is x p =
    let a = x.same ∙ ap (λ (k : Link). wire_time w.octets k.rate) is in
    let b = ap (λ (k : Link). k.propagation) is in
    record {
      same = omega (arith, sent_on_is t w start l);
      near = omega (arith, x.to, (s.table.link l s.link).propagation, s.table.sized.limits.precision);
    }
