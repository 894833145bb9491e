use Rattle.std.proofs.Common.{◌≡◌, ℕ, List, Bool, true, false, nat_eq, ap, sym, ◌∙◌}
use Rattle.std.specs.List.{list_any}
use Rattle.tptp_base.specs.Calls.{IsListed, failing_reads}
use Rattle.tptp_base.proofs.memory_store.MemoryStoreStore.read_at.Goals as goal

-- a number that was looked for among these and not found
not_found : (found : Bool) (items numbers : List ℕ) (number : ℕ) → found ≡ list_any (λ listed. nat_eq listed number) items → items ≡ numbers → found ≡ false → IsListed numbers number → ⊥
not_found found items numbers number value same not listed =
    let both : true ≡ false = sym listed ∙ ap (list_any (λ listed. nat_eq listed number)) (sym same) ∙ sym value ∙ not in cc

pub returns-in-Some-clause-fails : goal.returns-in-Some-clause-fails
returns-in-Some-clause-fails c =
    (λ failed. cc, λ listed. absurd (not_found _ c.as_slice.result.now (failing_reads c.args.self.now) c.saturating_add-self.result c.contains.ensures.value c.as_slice.ensures c.if-contains.false listed))
