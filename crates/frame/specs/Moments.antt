-- What is defined of a frame, a slot and a progress, asked of a moment.
use Rattle.std.specs.Prelude.{ℕ, List}
use Rattle.frame.specs.declared.moment.Moment.{Moment}
use Rattle.frame.specs.Frames.{FrameSpec, frame_spec}

-- the answer of q there
abbrev pub at_moment {ℓ} : {A : Type ℓ} → (FrameSpec → ℕ → List ℕ → A) → Moment → A
at_moment q m = q (frame_spec m.frame.now) m.slot m.progress.now
