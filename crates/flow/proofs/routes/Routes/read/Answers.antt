use Rattle.std.proofs.Common.{sym}
use Rattle.flow.proofs.Spelt.{read_meant}
use Rattle.flow.proofs.routes.Routes.read.Goals as goal

pub returns-clause-meant : goal.returns-clause-meant
returns-clause-meant c = read_meant c.args.bytes.now _ (sym c.read_all.ensures)
