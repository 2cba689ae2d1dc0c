use Rattle.std.proofs.Common.{ℕ, ◌<◌, List, length, sym, subst}
use Rattle.std.specs.List.{All}
use Rattle.report_names.specs.Names.{place_in}
use Rattle.report_making.proofs.MadeLaws.{Given, have_noises, order_is_all, shows, valid_made}
use Rattle.report_making.proofs.tournament.tournament_report.Goals as goal

pub noises_in_order-requires-clause-inside : goal.noises_in_order-requires-clause-inside
noises_in_order-requires-clause-inside c =
    let names = c.args.names.now in
    let g : Given c.args.head.now names c.args.totals.now.matches = record { are_names = c.in_ok-order.ensures.are_names; different = c.requires.different; playable = c.requires.results.playable } in
    let all = order_is_all names _ c.as_slice-matches.result.now c.args.totals.now.matches c.as_slice-matches.ensures c.in_ok-order.ensures.order in
    subst (λ (order : List (List ℕ)). All (λ name. place_in names name < length c.args.noises.now) order) (sym all) (have_noises c.names_grow.ensures c.args.head.now names c.args.totals.now.matches (length c.args.noises.now) g c.requires.as_many)

pub returns-clause-valid : goal.returns-clause-valid
returns-clause-valid c =
    let g : Given c.args.head.now c.args.names.now c.args.totals.now.matches = record { are_names = c.in_ok-order.ensures.are_names; different = c.requires.different; playable = c.requires.results.playable } in
    valid_made c.names_grow.ensures c.args.head.now c.args.names.now c.args.noises.now c.args.totals.now _ _ c.as_slice-matches.result.now _ _ _
    c.requires.head c.unsigned.ensures.game c.denominator.ensures.rate g c.requires.some_names c.requires.few_names c.requires.results c.in_ok-own.ensures.are_noises
    c.as_slice-matches.ensures c.in_ok-own.ensures.noises c.in_ok-order.ensures.order c.in_ok-moved.ensures c.in_ok-who.ensures c.in_ok-entries.ensures

pub returns-clause-shows : goal.returns-clause-shows
returns-clause-shows c =
    let g : Given c.args.head.now c.args.names.now c.args.totals.now.matches = record { are_names = c.in_ok-order.ensures.are_names; different = c.requires.different; playable = c.requires.results.playable } in
    shows c.names_grow.ensures c.args.head.now c.args.names.now c.args.totals.now g
