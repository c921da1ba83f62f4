use Rattle.std.proofs.Common.{Bool, refl, sym, ap}
use Rattle.std.specs.Prelude.{if◌then◌else◌}
use Rattle.typst_lexer.specs.declared.place.Place.TheVariants.{FieldName, Name}
use Rattle.typst_lexer.proofs.QuickTokens.{name_found}
use Rattle.typst_lexer.proofs.quick.quick_name.Goals as goal

pub returns-then-stops_name-clause-first : goal.returns-then-stops_name-clause-first
returns-then-stops_name-clause-first c start =
    name_found c.args.before FieldName c.args.bytes.now c.names-len.result c.plain_name-kind.result
    (ap (λ (v : Bool). if v then FieldName else Name) (sym c.if-is_field.ensures)) (λ bs. refl)
    start c.names-len.ensures.value (c.stops_name.ensures.field c.if-stops_name.true) c.plain_name-kind.ensures

pub returns-then-stops_name-2-clause-first : goal.returns-then-stops_name-2-clause-first
returns-then-stops_name-2-clause-first c start =
    name_found c.args.before Name c.args.bytes.now c.names-len.result c.name_kind-kind.result
    (ap (λ (v : Bool). if v then FieldName else Name) (sym c.if-is_field.ensures)) (λ bs. refl)
    start c.names-len.ensures.value (c.stops_name-else-is_field.ensures.name c.if-stops_name-2.true) c.name_kind-kind.ensures
