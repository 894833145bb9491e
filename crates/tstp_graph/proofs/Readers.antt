-- How lists are read, a member at a time.
use Rattle.std.proofs.Common.{◌≡◌, ℕ, suc, ◌+◌, ◌<◌, ◌≤◌, ◌&&◌, Bool, true, false, List, [], ◌∷◌, ◌++◌, length, map, take, drop, None, get_or, drop-cons, add-one, refl, sym, ◌∙◌, ap, append_assoc}
use Rattle.std.specs.List.{flat_map, list_all}
use Rattle.std.proofs.lemmas.List.{take_more, take_all, append-nil}
use Rattle.tptp_base.specs.declared.item.GTerm.{GTerm}
use Rattle.tstp_graph.specs.declared.cite.Cite.{Cite}
use Rattle.tstp_graph.specs.declared.cite.Reading.{Reading}
use Rattle.tstp_graph.specs.code.Sources.{reading, list_reading}

map_last : {X Y : Type 0} (f : X → Y) (xs : List X) (x : X) → map f (xs ++ x ∷ []) ≡ map f xs ++ f x ∷ []
map_last f [] x = refl
map_last f (y ∷ xs) x = ap (λ l. f y ∷ l) (map_last f xs x)

flat_last : {X Y : Type 0} (f : X → List Y) (xs : List X) (x : X) → flat_map f (xs ++ x ∷ []) ≡ flat_map f xs ++ f x
flat_last f [] x = append-nil (f x)
flat_last f (y ∷ xs) x = ap (λ l. f y ++ l) (flat_last f xs x) ∙ sym (append_assoc (f y) (flat_map f xs) (f x))

all_last : {X : Type 0} (p : X → Bool) (xs : List X) (x : X) → list_all p (xs ++ x ∷ []) ≡ (list_all p xs && p x)
all_last p [] x = by (p x)
  where
    by : (b : Bool) → (b && true) ≡ (true && b)
    by true = refl
    by false = refl
all_last p (y ∷ xs) x = by (p y) (all_last p xs x)
  where
    by : (b : Bool) → list_all p (xs ++ x ∷ []) ≡ (list_all p xs && p x) → (b && list_all p (xs ++ x ∷ [])) ≡ ((b && list_all p xs) && p x)
    by true is = is
    by false is = refl

take_here : {X : Type 0} (xs : List X) (i : ℕ) (x : X) → i < length xs → x ≡ get_or xs i x → take i xs ++ x ∷ [] ≡ take (i + 1) xs
take_here {X = X} xs i x lt is = ap (λ (y : X). take i xs ++ y ∷ []) is ∙ sym (take_more xs i x lt)

pub map_more : {X Y : Type 0} (f : X → Y) (xs : List X) (i : ℕ) (x : X) (ys : List Y) → i < length xs → x ≡ get_or xs i x → ys ≡ map f (take i xs) → ys ++ f x ∷ [] ≡ map f (take (i + 1) xs)
map_more f xs i x ys lt is so_far = ap (λ l. l ++ f x ∷ []) so_far ∙ sym (map_last f (take i xs) x) ∙ ap (map f) (take_here xs i x lt is)

pub flat_more : {X Y : Type 0} (f : X → List Y) (xs : List X) (i : ℕ) (x : X) (ys : List Y) → i < length xs → x ≡ get_or xs i x → ys ≡ flat_map f (take i xs) → ys ++ f x ≡ flat_map f (take (i + 1) xs)
flat_more f xs i x ys lt is so_far = ap (λ l. l ++ f x) so_far ∙ sym (flat_last f (take i xs) x) ∙ ap (flat_map f) (take_here xs i x lt is)

pub all_more : {X : Type 0} (p : X → Bool) (xs : List X) (i : ℕ) (x : X) (b : Bool) → i < length xs → x ≡ get_or xs i x → b ≡ list_all p (take i xs) → (b && p x) ≡ list_all p (take (i + 1) xs)
all_more p xs i x b lt is so_far = ap (λ d. d && p x) so_far ∙ sym (all_last p (take i xs) x) ∙ ap (list_all p) (take_here xs i x lt is)

pub taken_all : {X Y : Type 0} (f : List X → Y) (xs : List X) (i : ℕ) (y : Y) → length xs ≤ i → y ≡ f (take i xs) → y ≡ f xs
taken_all f xs i y all is = is ∙ ap f (take_all i xs all)

-- the item at a place comes first of the rest
pub drop_here : {X : Type 0} (xs : List X) (i : ℕ) (x : X) → i < length xs → x ≡ get_or xs i x → drop i xs ≡ x ∷ drop (i + 1) xs
drop_here {X = X} xs i x lt is = rw add-one (drop-cons xs i x lt ∙ ap (λ (y : X). y ∷ drop (suc i) xs) (sym is))

all_map : {X Y : Type 0} (p : Y → Bool) (f : X → Y) (xs : List X) → list_all p (map f xs) ≡ list_all (λ x. p (f x)) xs
all_map p f [] = refl
all_map p f (x ∷ xs) = ap (λ b. p (f x) && b) (all_map p f xs)

flat_map_map : {X Y Z : Type 0} (g : Y → List Z) (f : X → Y) (xs : List X) → flat_map g (map f xs) ≡ flat_map (λ x. g (f x)) xs
flat_map_map g f [] = refl
flat_map_map g f (x ∷ xs) = ap (λ l. g (f x) ++ l) (flat_map_map g f xs)

list_with : Bool → List Cite → Reading
list_with good gives = record { name = None; is_list = true; is_good = good; is_step = true; is_read = true; gives = gives }

-- a list, of which all members were read
pub list_read : (members : List GTerm) (i : ℕ) (good : Bool) (gives : List Cite) → length members ≤ i → good ≡ list_all (λ m. (reading m).is_good) (take i members) → gives ≡ flat_map (λ m. (reading m).gives) (take i members)
    → ◌≡◌ {A = Reading} (record { name = None; is_list = true; is_good = good; is_step = true; is_read = true; gives = gives }) (list_reading (map reading members))
unfolding list_with
list_read members i good gives all goods given =
    let a : good ≡ list_all (λ (r : Reading). r.is_good) (map reading members) = taken_all (list_all (λ m. (reading m).is_good)) members i good all goods ∙ sym (all_map (λ (r : Reading). r.is_good) reading members) in
    let b : gives ≡ flat_map (λ (r : Reading). r.gives) (map reading members) = taken_all (flat_map (λ m. (reading m).gives)) members i gives all given ∙ sym (flat_map_map (λ (r : Reading). r.gives) reading members) in
    ap (λ g. list_with g gives) a ∙ ap (list_with (list_all (λ (r : Reading). r.is_good) (map reading members))) b
