use Rattle.std.proofs.Common.{length, get_or, ap, ◌∙◌, arith}
use Rattle.frame.specs.Frames.{frame_spec}
use Rattle.frame.proofs.Shares.{starts-long, starts_at}
use Rattle.frame.proofs.frame.Frame.start.Goals as goal

pub bounds-as_slice-device : goal.bounds-as_slice-device
bounds-as_slice-device c =
    let f = c.args.self.now in
    omega (arith, ap length (c.as_slice.ensures.value ∙ f.parted), starts-long (frame_spec f).legs, c.requires)

pub returns : goal.returns
returns c =
    let f = c.args.self.now in
    ap (λ l. get_or l c.args.device 0) (c.as_slice.ensures.value ∙ f.parted)
    ∙ starts_at (frame_spec f).legs c.args.device (omega (arith, c.requires))
