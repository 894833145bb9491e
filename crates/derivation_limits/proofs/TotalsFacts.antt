-- Tables whose names are looked up by their bytes.
use Rattle.std.proofs.Common.{◌≡◌, ℕ, ◌+◌, Bool, true, false, cond, List, Option, Some, refl, ◌∙◌, ap, subst}
use Rattle.std.specs.Option.{option_map_or}
use Rattle.std.specs.Str.{bytes_eq}
use Rattle.std.specs.Cmp.Lexicographic.{bytes_decides}
use Rattle.std.specs.HashMap as hash
use Rattle.tstp_graph.proofs.Texts.{updates_text}
use Rattle.derivation_limits.specs.declared.totals.Totals.{Totals}
use Rattle.derivation_limits.specs.Totals.{Adds, capped, total_of}

abbrev or_none : Option ℕ → ℕ
or_none o = option_map_or (λ total. total) o 0

-- what a look-up found
pub found_is : (table : Totals) (name : List ℕ) (o : Option ℕ) → o ≡ hash.get_by (λ k. bytes_eq name k.items) table.totals → or_none o ≡ total_of table name
unfolding total_of
found_is table name o is = ap or_none is

-- an update at a name adds what is put there
pub adds : (old new : Totals) (name key : List ℕ) (amount total : ℕ) → key ≡ name → total ≡ capped (total_of old name + amount)
    → hash.UpdatesBy (λ x y. bytes_eq x.items y.items) (λ k. bytes_eq key k.items) old.totals new.totals (Some total) → Adds old name amount new
unfolding total_of
adds old new name key amount total same is updates other =
    by (bytes_eq name other) refl (updates_text (λ k. k.items) name old.totals new.totals (Some total) (subst (λ (t : List ℕ). hash.UpdatesBy (λ x y. bytes_eq x.items y.items) (λ k. bytes_eq t k.items) old.totals new.totals (Some total)) same updates) other)
  where
    by : (b : Bool) → bytes_eq name other ≡ b → hash.get_by (λ k. bytes_eq other k.items) new.totals ≡ cond b (Some total) (hash.get_by (λ k. bytes_eq other k.items) old.totals)
        → total_of new other ≡ cond b (capped (total_of old other + amount)) (total_of old other)
    by true y e = ap or_none e ∙ is ∙ ap (λ (t : List ℕ). capped (total_of old t + amount)) ((bytes_decides name other).0 y)
    by false n e = ap or_none e
