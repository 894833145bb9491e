use Rattle.std.proofs.Common.{◌≡◌, ℕ, List, ap, sym, ◌∙◌, ◌++◌, ◌∷◌, [], false, map}
use Rattle.std.specs.Prelude.{is_some}
use Rattle.std.specs.List.{list_any}
use Rattle.std.proofs.lemmas.List.{map-append}
use Rattle.indexmap.proofs.CallerLemmas.{insert_entry-new}
use Rattle.fi_model.specs.code.Adding.{under}
use Rattle.fi_model.proofs.IndexFacts.{some_is, flip, none_of, on_true}
use Rattle.fi_model.proofs.index.Index.add.Goals as goal

pub returns-clause-told : goal.returns-clause-told
returns-clause-told c =
    let chain : is_some c.in_ok-earlier.earlier ≡ list_any (under c.args.key.items) c.args.self.now = ap is_some c.in_ok-earlier.ensures.old ∙ some_is (λ k. k.items) c.args.key.items c.self.inside.values.entries ∙ ap (λ (es : List (List ℕ × ℕ)). list_any (under c.args.key.items) es) c.self.view_is in
    flip (list_any (under c.args.key.items) c.args.self.now) c.is_none.result (sym chain ∙ c.is_none.ensures)

pub returns-clause-added : goal.returns-clause-added
returns-clause-added c =
    on_true c.is_none.result (λ none.
    let gone : is_some c.in_ok-earlier.earlier ≡ false = rw none at c.is_none.ensures in
    let nothing = none_of c.in_ok-earlier.earlier gone in
    ap (map (λ e. (e.0.items, e.1))) (c.in_ok-earlier.ensures.entries ∙ insert_entry-new _ c.self.inside.values c.args.key c.args.value (sym c.in_ok-earlier.ensures.old ∙ nothing))
    ∙ map-append (λ e. (e.0.items, e.1)) c.self.inside.values.entries ((c.args.key, c.args.value) ∷ [])
    ∙ ap (λ (es : List (List ℕ × ℕ)). es ++ (c.args.key.items, c.args.value) ∷ []) c.self.view_is)
