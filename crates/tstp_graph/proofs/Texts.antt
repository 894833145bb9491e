-- Tables whose keys are looked up by their bytes.
use Rattle.std.proofs.Common.{◌≡◌, ℕ, Bool, true, false, cond, List, [], ◌∷◌, ◌++◌, Option, Some, Result, Ok, Err, OnOk, refl, sym, ◌∙◌, ap, subst}
use Rattle.std.specs.Option.{option_map_or}
use Rattle.std.specs.Str.{bytes_eq}
use Rattle.std.specs.Cmp.Lexicographic.{bytes_decides, nat_list_eq_equiv}
use Rattle.std.specs.HashMap.{HashMap}
use Rattle.std.specs.HashMap as hash
use Rattle.std.specs.Map.{lookup, IsKeyTest, AreApart, KeepsOthers}
use Rattle.std.proofs.lemmas.Bool.{cond-true, cond-false}
use Rattle.tptp_base.specs.declared.name.Name.{Name}
use Rattle.tptp_base.specs.declared.name.Name.TheVariants.{Word, Integer}
use Rattle.tstp_graph.specs.declared.names.TextTable.{TextTable}
use Rattle.tstp_graph.specs.declared.names.NameTable.{NameTable}
use Rattle.tstp_graph.specs.code.Tables.{found_text, Puts, AddsText, Adds}

apart : (bs cs ks : List ℕ) → bytes_eq bs cs ≡ false → bytes_eq bs ks ≡ true → bytes_eq cs ks ≡ false
apart bs cs ks n y = nat_list_eq_equiv.symm cs ks ∙ sym (nat_list_eq_equiv.congr bs ks cs y) ∙ n

other_entries : {K X : Type 0} (eq : K → K → Bool) (test : K → Bool) (old new : List (K × X)) → KeepsOthers eq test old new → (other : K → Bool) → IsKeyTest eq other → AreApart test other → lookup other new ≡ lookup other old
unfolding KeepsOthers
other_entries eq test old new h = h

-- g is w at bs, and f at other bytes
by_bytes : {W : Type 0} (f g : List ℕ → W) (bs : List ℕ) (w : W) → g bs ≡ w → ((cs : List ℕ) → bytes_eq bs cs ≡ false → g cs ≡ f cs) → (cs : List ℕ) → g cs ≡ cond (bytes_eq bs cs) w (f cs)
by_bytes {W = W} f g bs w here other cs = by (bytes_eq bs cs) refl
  where
    by : (b : Bool) → bytes_eq bs cs ≡ b → g cs ≡ cond (bytes_eq bs cs) w (f cs)
    by true y = subst (λ (l : List ℕ). g l ≡ w) ((bytes_decides bs cs).0 y) here ∙ sym (cond-true (bytes_eq bs cs) w (f cs) y)
    by false n = other cs n ∙ sym (cond-false (bytes_eq bs cs) w (f cs) n)

-- what an update at the bytes bs leaves at any bytes
pub updates_text : {K X S : Type 0} (text : K → List ℕ) (bs : List ℕ) (m n : HashMap K X S) (w : Option X) → hash.UpdatesBy (λ x y. bytes_eq (text x) (text y)) (λ k. bytes_eq bs (text k)) m n w
    → (cs : List ℕ) → hash.get_by (λ k. bytes_eq cs (text k)) n ≡ cond (bytes_eq bs cs) w (hash.get_by (λ k. bytes_eq cs (text k)) m)
updates_text text bs m n w h =
    by_bytes (λ ds. hash.get_by (λ k. bytes_eq ds (text k)) m) (λ ds. hash.get_by (λ k. bytes_eq ds (text k)) n) bs w h.1
    (λ cs e. other_entries (λ x y. bytes_eq (text x) (text y)) (λ k. bytes_eq bs (text k)) m.entries n.entries h.3 (λ k. bytes_eq cs (text k)) (λ x y. nat_list_eq_equiv.congr cs (text x) (text y)) (λ k. apart bs cs (text k) e))

-- what a look-up found
pub found_is : (table : TextTable) (text : List ℕ) (o : Option (List ℕ)) → o ≡ hash.get_by (λ k. bytes_eq text k.items) table.places → option_map_or (λ (places : List ℕ). places) o [] ≡ found_text table text
unfolding found_text
found_is table text o is = ap (λ (p : Option (List ℕ)). option_map_or (λ (places : List ℕ). places) p []) is

-- an update at a text puts what it puts
pub puts : (old new : TextTable) (text : List ℕ) (w : Option (List ℕ)) → hash.UpdatesBy (λ x y. bytes_eq x.items y.items) (λ k. bytes_eq text k.items) old.places new.places w → Puts old text (option_map_or (λ (places : List ℕ). places) w []) new
unfolding found_text
puts old new text w updates other = by (bytes_eq text other) (updates_text (λ k. k.items) text old.places new.places w updates other)
  where
    by : (b : Bool) → hash.get_by (λ k. bytes_eq other k.items) new.places ≡ cond b w (hash.get_by (λ k. bytes_eq other k.items) old.places)
        → found_text new other ≡ cond b (option_map_or (λ (places : List ℕ). places) w []) (found_text old other)
    by true is = ap (λ (o : Option (List ℕ)). option_map_or (λ (places : List ℕ). places) o []) is
    by false is = ap (λ (o : Option (List ℕ)). option_map_or (λ (places : List ℕ). places) o []) is

pub put_text : (old new : TextTable) (items text places : List ℕ) → items ≡ text → hash.UpdatesBy (λ x y. bytes_eq x.items y.items) (λ k. bytes_eq items k.items) old.places new.places (Some places) → Puts old text places new
put_text old new items text places same updates = subst (λ (t : List ℕ). Puts old t places new) same (puts old new items (Some places) updates)

pub adds : (old mid new : TextTable) (text : List ℕ) (place : ℕ) (taken put : List ℕ) → taken ≡ found_text old text → Puts old text [] mid → put ≡ taken ++ place ∷ [] → Puts mid text put new → AddsText old text place new
adds old mid new text place taken put was left is puts other = by (bytes_eq text other) refl
  where
    by : (b : Bool) → bytes_eq text other ≡ b → found_text new other ≡ cond (bytes_eq text other) (found_text old other ++ place ∷ []) (found_text old other)
    by true y =
        puts other ∙ cond-true (bytes_eq text other) put (found_text mid other) y ∙ is ∙ ap (λ (l : List ℕ). l ++ place ∷ []) (was ∙ ap (found_text old) ((bytes_decides text other).0 y))
        ∙ sym (cond-true (bytes_eq text other) (found_text old other ++ place ∷ []) (found_text old other) y)
    by false n =
        puts other ∙ cond-false (bytes_eq text other) put (found_text mid other) n ∙ left other ∙ cond-false (bytes_eq text other) [] (found_text old other) n
        ∙ sym (cond-false (bytes_eq text other) (found_text old other ++ place ∷ []) (found_text old other) n)

pub adds_word : (old new : NameTable) (text : List ℕ) (place : ℕ) → AddsText old.words text place new.words → new.integers ≡ old.integers → Adds old (Word text) place new
adds_word old new text place words integers (Word other) = words other
adds_word old new text place words integers (Integer other) = ap (λ (t : TextTable). found_text t other) integers

pub adds_integer : (old new : NameTable) (text : List ℕ) (place : ℕ) → AddsText old.integers text place new.integers → new.words ≡ old.words → Adds old (Integer text) place new
adds_integer old new text place integers words (Word other) = ap (λ (t : TextTable). found_text t other) words
adds_integer old new text place integers words (Integer other) = integers other

pub adds_on : {T E : Type 0} (r : Result T E) (old mid new : TextTable) (text : List ℕ) (place : ℕ) (taken put : List ℕ) → taken ≡ found_text old text → Puts old text [] mid → put ≡ taken ++ place ∷ [] → OnOk r (Puts mid text put new) → OnOk r (AddsText old text place new)
adds_on (Ok value) old mid new text place taken put was left is puts = adds old mid new text place taken put was left is puts
adds_on (Err error) old mid new text place taken put was left is puts = tt

pub adds_word_on : {T E : Type 0} (r : Result T E) (old new : NameTable) (place : ℕ) (name : Name) (text slice : List ℕ) → name ≡ Word text → slice ≡ text → OnOk r (AddsText old.words slice place new.words) → new.integers ≡ old.integers → OnOk r (Adds old name place new)
adds_word_on (Ok value) old new place name text slice named same words integers =
    subst (λ (n : Name). Adds old n place new) (sym named) (adds_word old new text place (subst (λ (t : List ℕ). AddsText old.words t place new.words) same words) integers)
adds_word_on (Err error) old new place name text slice named same words integers = tt

pub adds_integer_on : {T E : Type 0} (r : Result T E) (old new : NameTable) (place : ℕ) (name : Name) (text slice : List ℕ) → name ≡ Integer text → slice ≡ text → OnOk r (AddsText old.integers slice place new.integers) → new.words ≡ old.words → OnOk r (Adds old name place new)
adds_integer_on (Ok value) old new place name text slice named same integers words =
    subst (λ (n : Name). Adds old n place new) (sym named) (adds_integer old new text place (subst (λ (t : List ℕ). AddsText old.integers t place new.integers) same integers) words)
adds_integer_on (Err error) old new place name text slice named same integers words = tt
