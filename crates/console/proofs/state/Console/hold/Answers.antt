use Rattle.std.proofs.Common.{◌∙◌}
use Rattle.std.proofs.lemmas.Bool.{ne_eqb}
use Rattle.line.specs.Held.{held}
use Rattle.line.proofs.Fronts.{front_push}
use Rattle.console.proofs.state.Console.hold.Goals as goal

pub returns-clause-held : goal.returns-clause-held
returns-clause-held c = λ k keeps.
    let held_now = c.push.ensures ∙ front_push (held c.args.self.now.received) k.line c.args.byte keeps.line in
    rw (ne_eqb c.args.byte 10 c.if-byte-eq-NEWLINE.false) (record { plan = keeps.plan; lines = keeps.lines; line = held_now })
