-- The causes of faults.
use Rattle.std.specs.Prelude.{IfErr, IsErrAnd}
use Rattle.std.proofs.Common.{◌≡◌, ◌⊎◌, List, [], inl, inr, sym, ap, subst, Some, None, Ok, Err}
use Rattle.std.specs.declared.option.Option.{Option}
use Rattle.std.specs.declared.result.Result.{Result}
use Rattle.tptp_base.specs.declared.item.Item.{Item}
use Rattle.tptp_base.specs.declared.name.Name.{Name}
use Rattle.include_resolve.specs.declared.fault.IncludeFault.{IncludeFault}
use Rattle.include_resolve.specs.declared.fault.IncludeFault.TheVariants as fault
use Rattle.include_resolve.specs.declared.opened.Opened.{Opened}
use Rattle.include_resolve.specs.declared.reading.Read.{Read}
use Rattle.include_resolve.specs.declared.reading.Read.TheVariants.{Whole, Over}
use Rattle.include_resolve.specs.code.Causes.{HasCause}
use Rattle.include_resolve.specs.Names.{Text}
use Rattle.include_resolve.specs.code.Opening.{TakesText}
use Rattle.include_resolve.specs.Parts.{Answer}
use Rattle.include_resolve.specs.code.Reading.{IsStop}
use Rattle.include_resolve.specs.code.Selecting.{Selects}
use Rattle.include_resolve.specs.Selection.{unknown_name, chosen}
use Rattle.include_resolve.specs.code.Steps.{IsRefusal}
use Rattle.include_resolve.proofs.Joins.{part_of}

pub cause_later : (A B C D : Type 0) → (A → B) → (C → D) → (cause : IncludeFault) → HasCause cause A C → HasCause cause B D
cause_later A B C D f k (fault.Missing name) h = f h
cause_later A B C D f k (fault.Cycle name) h = tt
cause_later A B C D f k (fault.DeepInclude name) h = tt
cause_later A B C D f k (fault.UnknownSelection file name) h = tt
cause_later A B C D f k (fault.Text name t) h = tt
cause_later A B C D f k (fault.Limit name limit) h = tt
cause_later A B C D f k fault.Store h = k h
cause_later A B C D f k fault.Memory h = tt

pub causes_later : {T : Type 0} (A B C D : Type 0) → (A → B) → (C → D) → (result : Result T IncludeFault) → IfErr result (λ cause. HasCause cause A C) → IfErr result (λ cause. HasCause cause B D)
causes_later A B C D f k (Ok value) h = tt
causes_later A B C D f k (Err cause) h = cause_later A B C D f k cause h

pub cause_of_stop : (A B : Type 0) (cause : IncludeFault) → IsStop cause B → HasCause cause A B
cause_of_stop A B (fault.Missing name) h = absurd h
cause_of_stop A B (fault.Cycle name) h = tt
cause_of_stop A B (fault.DeepInclude name) h = tt
cause_of_stop A B (fault.UnknownSelection file name) h = tt
cause_of_stop A B (fault.Text name t) h = tt
cause_of_stop A B (fault.Limit name limit) h = tt
cause_of_stop A B fault.Store h = h
cause_of_stop A B fault.Memory h = tt

pub cause_of_memory : (A B : Type 0) (cause : IncludeFault) → cause ≡ fault.Memory → HasCause cause A B
cause_of_memory A B cause e = subst (λ (c : IncludeFault). HasCause c A B) (sym e) tt

pub cause_of_missing : (A B : Type 0) (name : Text) (cause : IncludeFault) → A → (cause ≡ fault.Missing name) ⊎ (cause ≡ fault.Memory) → HasCause cause A B
cause_of_missing A B name cause a (inl e) = subst (λ (c : IncludeFault). HasCause c A B) (sym e) a
cause_of_missing A B name cause a (inr e) = cause_of_memory A B cause e

pub cause_of_refusal : (A B : Type 0) (path : List Text) (name : Text) (cause : IncludeFault) → IsRefusal path name cause → HasCause cause A B
cause_of_refusal A B path name cause (inl h) = subst (λ (c : IncludeFault). HasCause c A B) (sym h.0) tt
cause_of_refusal A B path name cause (inr (inl h)) = subst (λ (c : IncludeFault). HasCause c A B) (sym h.0) tt
cause_of_refusal A B path name cause (inr (inr e)) = cause_of_memory A B cause e

pub cause_of_text : (A B : Type 0) (old new : Opened) (name : Text) (read : Read) (cause : IncludeFault) → TakesText old new name read (Err cause) → HasCause cause A B
cause_of_text A B old new name (Whole text) cause (inl (t, e, is)) = subst (λ (c : IncludeFault). HasCause c A B) (sym e) tt
cause_of_text A B old new name (Whole text) cause (inr e) = cause_of_memory A B cause e
cause_of_text A B old new name (Over limit) cause (inl e) = subst (λ (c : IncludeFault). HasCause c A B) (sym e) tt
cause_of_text A B old new name (Over limit) cause (inr e) = cause_of_memory A B cause e

fault_of : Answer → IncludeFault
fault_of (Ok part) = fault.Memory
fault_of (Err cause) = cause

chosen_cause : (A B : Type 0) (file : Text) (names : List Name) (items : List Item) (cause : IncludeFault) (o : Option Name) → ◌≡◌ {A = Answer} (chosen file names (part_of [] items 0) o) (Err cause) → HasCause cause A B
unfolding fault_of
chosen_cause A B file names items cause (Some name) e = subst (λ (c : IncludeFault). HasCause c A B) (ap fault_of e) tt
chosen_cause A B file names items cause None e = subst (λ (c : IncludeFault). HasCause c A B) (ap fault_of e) tt

pub cause_of_selection : (A B : Type 0) (file : Text) (selection : Option (List Name)) (items : List Item) (cause : IncludeFault) → Selects file selection items (Err cause) → HasCause cause A B
unfolding fault_of
cause_of_selection A B file selection items cause (inl e) = cause_of_memory A B cause e
cause_of_selection A B file None items cause (inr h) = subst (λ (c : IncludeFault). HasCause c A B) (ap fault_of (h [] 0)) tt
cause_of_selection A B file (Some names) items cause (inr h) = chosen_cause A B file names items cause (unknown_name names items) (h [] 0)

pub causes_of_selection : (A B : Type 0) (file : Text) (selection : Option (List Name)) (items : List Item) (result : Result (List Item) IncludeFault) → Selects file selection items result → IfErr result (λ cause. HasCause cause A B)
causes_of_selection A B file selection items (Ok kept) h = tt
causes_of_selection A B file selection items (Err cause) h = cause_of_selection A B file selection items cause h

-- the answer of a `?`
pub err_case : {T : Type 0} (P : Result T IncludeFault → Type 0) (result : Result T IncludeFault) (cause : IncludeFault) → IsErrAnd result (λ c. c ≡ cause) → P (Err cause) → P result
err_case P (Ok value) cause h k = absurd h
err_case {T} P (Err other) cause h k = subst (λ (c : IncludeFault). P (Err c)) (sym h) k
