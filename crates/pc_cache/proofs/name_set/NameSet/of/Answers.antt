use Rattle.std.proofs.Common.{◌||◌, ◌+◌, drop, sym, ap, ◌∙◌, ◌∷◌}
use Rattle.std.proofs.lemmas.List.{drop_more}
use Rattle.pc_tables.specs.Table.{is_among}
use Rattle.pc_cache.proofs.Sets.{set-step}
use Rattle.pc_cache.proofs.name_set.NameSet.of.Goals as goal

pub loop-name-preserved : goal.loop-name-preserved
loop-name-preserved c = λ name.
    let names = c.args.names.now in
    let i = c.loop-name.name-index in
    let rest = drop (i + 1) names in
    let next = drop_more names i c.name-item.result c.loop-name-test.true ∙ ap (λ one. one ∷ rest) (sym c.name-item.is) in
    ap (λ keys. is_among name keys || is_among name rest) c.in_ok-insert.ensures.keys
    ∙ set-step name c.name-item.result c.loop-name.set.keys rest
    ∙ ap (λ l. is_among name c.loop-name.set.keys || is_among name l) (sym next)
    ∙ c.loop-name.invariant name
