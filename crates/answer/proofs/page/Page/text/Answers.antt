use Rattle.std.proofs.Common.{refl, ap, ◌∙◌, length, arith}
use Rattle.answer.proofs.Put.{put_part, length-put}
use Rattle.answer.proofs.page.Page.text.Goals as goal
use Rattle.answer.proofs.page.Page.text.Goals.{then-end-self, else-end-self}

pub returns : goal.returns
returns c = elim c.if-end-self.branch [
  | then-end-self w ↦
      let written = put_part c.args.self.now.memory.now _ _ _ _ w.copy_from_slice.ensures.after (omega arith) in
      rw w.self-is (record {
        same = refl;
        counted = refl;
        size = ap length written ∙ length-put _ _ _ w.if-end-self.true;
        written = λ _. written;
      })
  | else-end-self w ↦ rw w.self-is (record { same = refl; counted = refl; size = refl; written = λ fits. absurd (omega arith) })
]
