use Rattle.std.proofs.Common.{rules, ◌≡◌, ◌≤◌, ◌^◌, eqb, length, arith}
use Rattle.std.specs.List.{count_by}
use Rattle.std.proofs.lemmas.Iterator.{YieldsList-from_slice}
use Rattle.std.proofs.lemmas.Iterator.Adapters.{fits_from_length, at_most_from_yields_List}
use Rattle.line.proofs.Splits.{few_separators}
use Rattle.line.proofs.pieces.count.Goals as goal

-- each byte counts one at most
pub sum-separators-requires-clause-fits : goal.sum-separators-requires-clause-fits
sum-separators-requires-clause-fits c =
    let few : length c.args.text.now ≤ 2 ^ 63 = search rules in
    fits_from_length _ _ (2 ^ 63) (2 ^ 64) (at_most_from_yields_List (YieldsList-from_slice c.args.text.now cc) few)
    c.map.ensures.closure (omega arith) (λ x r q k. search rules)

pub overflow_add-result : goal.overflow_add-result
overflow_add-result c =
    let few : length c.args.text.now ≤ 2 ^ 63 = search rules in
    let separators : c.sum-separators.result ≡ count_by (λ x. eqb x c.args.separator) c.args.text.now = search rules in
    omega (arith, separators, few_separators c.args.separator c.args.text.now)

pub returns-clause-within : goal.returns-clause-within
returns-clause-within c =
    let separators : c.sum-separators.result ≡ count_by (λ x. eqb x c.args.separator) c.args.text.now = search rules in
    omega (arith, separators, few_separators c.args.separator c.args.text.now)
