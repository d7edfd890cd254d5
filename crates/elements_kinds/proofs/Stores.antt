-- What is seen of a store, and how a definition and a removal change it.
use Rattle.std.proofs.Common.{◌≡◌, ◌≢◌, ◌⊎◌, ◌<◌, ◌≤◌, ◌+◌, ◌-◌, ◌/◌, ◌^◌, ◌++◌, ◌&&◌, ◌||◌, not, ℕ, Bool, true, false, cond, eqb, max, [], Option, Some, None, is_some, length, length-append, get_or, set, length-set, replicate, refl, sym, ap, ◌∙◌, inl, inr, arith, nat_lt, nat_le}
use Rattle.std.specs.Ordering.{nat_cmp}
use Rattle.std.specs.FinMap as map_of
use Rattle.std.specs.FinMap.{FinMap}
use Rattle.descriptors.specs.declared.property.Complete.{Complete}
use Rattle.std.proofs.lemmas.Bool.{cases_Bool, cases_lt}
use Rattle.std.proofs.lemmas.Bool.Decides.{nat_tests}
use Rattle.std.proofs.lemmas.List.{get_or-set_same, get_or_past, length-replicate}
use Rattle.property_keys.specs.declared.values.Value.{Value}
use Rattle.elements_kinds.specs.declared.kinds.Class.{Class}
use Rattle.elements_kinds.specs.declared.kinds.Class.TheVariants as class
use Rattle.elements_kinds.specs.declared.kinds.ElementsKind.{ElementsKind}
use Rattle.elements_kinds.specs.declared.kinds.ElementsKind.TheVariants as kind
use Rattle.elements_kinds.specs.Kinds.{class_in, class_of, holey_from, is_dictionary, is_holey, join, kind_of}
use Rattle.elements_kinds.specs.Properties.{plain, properties_of}
use Rattle.elements_kinds.specs.Rules.{View, start, capacity_for, defined, end_of, is_dictionary_after, kind_for, leaves_hole, leaves_store, removed}
use Rattle.elements_kinds.specs.Sound.{IsSoundStore, grown}
use Rattle.elements_kinds.specs.Steps.{steps_down, steps_to_remove}
use Rattle.elements_kinds.proofs.Listed.{Values, listed_with, listed_without, get-set, get-grown, end_sound, present-listed, empty_listed}

-- what is seen of a store with these values
abbrev pub store_view : Values → Class → Bool → View
store_view values c holey = record { properties = properties_of values; kind = kind_of c holey; capacity = length values }

-- ---- the kinds of stores

pub class_in-kind_of : (c : Class) (h : Bool) → class_in (kind_of c h) ≡ c
class_in-kind_of class.Smi true = refl
class_in-kind_of class.Smi false = refl
class_in-kind_of class.Whole true = refl
class_in-kind_of class.Whole false = refl
class_in-kind_of class.Tagged true = refl
class_in-kind_of class.Tagged false = refl

pub is_holey-kind_of : (c : Class) (h : Bool) → is_holey (kind_of c h) ≡ h
is_holey-kind_of class.Smi true = refl
is_holey-kind_of class.Smi false = refl
is_holey-kind_of class.Whole true = refl
is_holey-kind_of class.Whole false = refl
is_holey-kind_of class.Tagged true = refl
is_holey-kind_of class.Tagged false = refl

pub is_dictionary-kind_of : (c : Class) (h : Bool) → is_dictionary (kind_of c h) ≡ false
is_dictionary-kind_of class.Smi true = refl
is_dictionary-kind_of class.Smi false = refl
is_dictionary-kind_of class.Whole true = refl
is_dictionary-kind_of class.Whole false = refl
is_dictionary-kind_of class.Tagged true = refl
is_dictionary-kind_of class.Tagged false = refl

holey_from-kind_of : (c : Class) (h : Bool) → holey_from (kind_of c h) ≡ kind_of c true
holey_from-kind_of class.Smi true = refl
holey_from-kind_of class.Smi false = refl
holey_from-kind_of class.Whole true = refl
holey_from-kind_of class.Whole false = refl
holey_from-kind_of class.Tagged true = refl
holey_from-kind_of class.Tagged false = refl

by_parts : (v : View) (p : FinMap nat_cmp Complete) (k : ElementsKind) (n : ℕ) → v.properties ≡ p → v.kind ≡ k → v.capacity ≡ n → v ≡ record { properties = p; kind = k; capacity = n }
by_parts v p k n a b d = λ t. record { properties = a t; kind = b t; capacity = d t }

pub empty_view : store_view [] class.Smi false ≡ start
empty_view = λ t. record { properties = empty_listed t; kind = kind.PackedSmi; capacity = 0 }

-- ---- a value is put

or_false : (a b : Bool) → (a || b) ≡ false → (a ≡ false) × (b ≡ false)
or_false true b e = absurd (let x : true ≡ false = e in cc)
or_false false b e = (refl, e)

pub stays_store : (v : View) (i : ℕ) (value : Value) → is_dictionary_after v i (plain value) ≡ false → i < 2 ^ 23
stays_store v i value e =
    let a = (or_false (is_dictionary v.kind) (leaves_store v.capacity i (plain value)) e).1 in
    let b = (or_false (nat_lt (v.capacity + 1024) i) (nat_le (2 ^ 23) i || not true) a).1 in
    let d : nat_le (2 ^ 23) i ≡ false = (or_false (nat_le (2 ^ 23) i) (not true) b).0 in
    grind (arith, nat_tests, d)

capacity-enough : (n i : ℕ) → n ≤ capacity_for n i
capacity-enough n i = grind (arith, nat_tests)

capacity-above : (n i : ℕ) → i < capacity_for n i
capacity-above n i = grind (arith, nat_tests)

capacity-small : (n i : ℕ) → n < 2 ^ 24 → i < 2 ^ 23 → capacity_for n i < 2 ^ 24
capacity-small n i a b =
    elim (cases_Bool (nat_lt i n)) [
      | inl y ↦ let e : capacity_for n i ≡ n = ap (λ (t : Bool). cond t n ((i + 1) + (i + 1) / 2 + 16)) y in omega arith
      | inr x ↦ let e : capacity_for n i ≡ (i + 1) + (i + 1) / 2 + 16 = ap (λ (t : Bool). cond t n ((i + 1) + (i + 1) / 2 + 16)) x in omega arith
    ]

pub length-grown : (vs : Values) (i : ℕ) → length (grown vs i) ≡ capacity_for (length vs) i
length-grown vs i =
    let n = capacity_for (length vs) i in
    let holes : Values = replicate (n - length vs) None in
    let r : length holes ≡ n - length vs = length-replicate (n - length vs) None in
    let more : length vs ≤ n = capacity-enough (length vs) i in
    let a : length (vs ++ holes) ≡ length vs + length holes = length-append vs holes in
    omega arith

module _ (vs : Values) (end : ℕ) (sound : IsSoundStore vs end) where
  module _ (ws : Values) (i : ℕ) (value : Value) (is : ws ≡ set (grown vs i) i (Some value)) where
    inside : i < length (grown vs i)
    inside = let a : i < capacity_for (length vs) i = capacity-above (length vs) i in let e = length-grown vs i in omega arith

    put-here : get_or ws i None ≡ Some value
    put-here = ap (λ xs. get_or xs i None) is ∙ get_or-set_same (grown vs i) i (Some value) None inside

    put-other : (q : ℕ) → q ≢ i → get_or ws q None ≡ get_or vs q None
    put-other q ne = ap (λ xs. get_or xs q None) is ∙ get-set (grown vs i) i q (Some value) ne ∙ get-grown vs (capacity_for (length vs) i - length vs) q

    length-put : length ws ≡ capacity_for (length vs) i
    length-put = ap length is ∙ length-set (grown vs i) i (Some value) ∙ length-grown vs i

    pub sound-put : i < 2 ^ 23 → IsSoundStore ws (max end (i + 1))
    sound-put small = record {
      past = λ q ge. put-other q (omega arith) ∙ sound.past q (omega arith);
      last = λ l. at (cases_lt i end);
      room = let a : capacity_for (length vs) i < 2 ^ 24 = capacity-small (length vs) i sound.room small in let e = length-put in omega arith;
    }
      where
        at : (i < end) ⊎ (end ≤ i) → is_some (get_or ws (max end (i + 1) - 1) None) ≡ true
        at (inl lt) =
            let e : max end (i + 1) - 1 ≡ end - 1 = omega arith in
            elim (cases_Bool (eqb (end - 1) i)) [
              | inl y ↦ let k : max end (i + 1) - 1 ≡ i = grind (arith, nat_tests, y, e) in ap (λ q. is_some (get_or ws q None)) k ∙ ap is_some put-here
              | inr x ↦
                  let ne : end - 1 ≢ i = λ k. grind (arith, nat_tests, x, k) in
                  ap (λ q. is_some (get_or ws q None)) e ∙ ap is_some (put-other (end - 1) ne) ∙ sound.last (omega arith)
            ]
        at (inr ge) = let e : max end (i + 1) - 1 ≡ i = omega arith in ap (λ q. is_some (get_or ws q None)) e ∙ ap is_some put-here

    pub view-put : (c c' : Class) (h h' : Bool) → is_dictionary_after (store_view vs c h) i (plain value) ≡ false → c' ≡ join c (class_of value) → h' ≡ (h || nat_lt end i)
        → store_view ws c' h' ≡ defined (store_view vs c h) i (plain value)
    view-put c c' h h' stays joined holes =
        let p : properties_of ws ≡ map_of.insert (properties_of vs) i (plain value) = listed_with vs ws i value put-here put-other in
        let k : kind_of c' h' ≡ kind_for (store_view vs c h) i (plain value) =
        (λ t. kind_of (joined t) (holes t))
        ∙ (λ t. kind_of (join (sym (class_in-kind_of c h) t) (class_of value)) (sym (is_holey-kind_of c h) t || nat_lt (sym (end_sound vs end sound) t) i)) in
        let made : Bool → View = λ b. record { properties = map_of.insert (properties_of vs) i (plain value); kind = cond b kind.Dictionary (kind_for (store_view vs c h) i (plain value)); capacity = cond b 0 (capacity_for (length vs) i) } in
        by_parts (store_view ws c' h') (map_of.insert (properties_of vs) i (plain value)) (kind_for (store_view vs c h) i (plain value)) (capacity_for (length vs) i) p k length-put
        ∙ ap made (sym stays)

  -- ---- an index is taken out

  steps_are : (c : Class) (h : Bool) (i : ℕ) (out there hole : Bool) → (is_dictionary (kind_of c h) || nat_le (length vs) i) ≡ out → map_of.contains_key (properties_of vs) i ≡ there → leaves_hole (properties_of vs) i ≡ hole
      → steps_to_remove (store_view vs c h) i ≡ cond out 0 (cond (not there) 1 (cond hole 2 (2 + steps_down i (end_of (map_of.remove (properties_of vs) i)))))
  steps_are c h i out there hole a b d = λ t. cond (a t) 0 (cond (not (b t)) 1 (cond (d t) 2 (2 + steps_down i (end_of (map_of.remove (properties_of vs) i)))))

  outside : (c : Class) (h : Bool) (i : ℕ) → length vs ≤ i → (is_dictionary (kind_of c h) || nat_le (length vs) i) ≡ true
  outside c h i ge = let e : nat_le (length vs) i ≡ true = grind (arith, nat_tests, ge) in λ t. is_dictionary-kind_of c h t || e t

  within : (c : Class) (h : Bool) (i : ℕ) → i < length vs → (is_dictionary (kind_of c h) || nat_le (length vs) i) ≡ false
  within c h i lt = let e : nat_le (length vs) i ≡ false = grind (arith, nat_tests, lt) in λ t. is_dictionary-kind_of c h t || e t

  pub steps-past : (c : Class) (h : Bool) (i : ℕ) → length vs ≤ i → steps_to_remove (store_view vs c h) i ≡ 0
  steps-past c h i ge = steps_are c h i true (map_of.contains_key (properties_of vs) i) (leaves_hole (properties_of vs) i) (outside c h i ge) refl refl

  there-is : (i : ℕ) (b : Bool) → is_some (get_or vs i None) ≡ b → map_of.contains_key (properties_of vs) i ≡ b
  there-is i b e = present-listed vs i ∙ e

  hole-is : (i : ℕ) (b d : Bool) → is_some (get_or vs i None) ≡ b → eqb (i + 1) end ≡ d → leaves_hole (properties_of vs) i ≡ (b && not d)
  hole-is i b d e f = λ t. there-is i b e t && not ((ap (eqb (i + 1)) (end_sound vs end sound) ∙ f) t)

  pub steps-absent : (c : Class) (h : Bool) (i : ℕ) → i < length vs → is_some (get_or vs i None) ≡ false → steps_to_remove (store_view vs c h) i ≡ 1
  steps-absent c h i lt none = steps_are c h i false false (leaves_hole (properties_of vs) i) (within c h i lt) (there-is i false none) refl

  pub steps-inner : (c : Class) (h : Bool) (i : ℕ) → i < length vs → is_some (get_or vs i None) ≡ true → i + 1 ≢ end → steps_to_remove (store_view vs c h) i ≡ 2
  steps-inner c h i lt some ne =
      let f : eqb (i + 1) end ≡ false = grind (arith, nat_tests, ne) in
      steps_are c h i false true true (within c h i lt) (there-is i true some) (hole-is i true false some f)

  none_some : (o : Option Value) → is_some o ≡ false → o ≡ None
  none_some None e = refl
  none_some (Some v) e = absurd (let x : true ≡ false = e in cc)

  pub view-absent : (c : Class) (h : Bool) (i : ℕ) → is_some (get_or vs i None) ≡ false → store_view vs c h ≡ removed (store_view vs c h) i
  view-absent c h i none =
      let p : properties_of vs ≡ map_of.remove (properties_of vs) i = listed_without vs vs i (none_some (get_or vs i None) none) (λ q ne. refl) in
      let g : leaves_hole (properties_of vs) i ≡ false = hole-is i false (eqb (i + 1) end) none refl in
      λ t. record { properties = p t; kind = cond (sym g t) (holey_from (kind_of c h)) (kind_of c h); capacity = length vs }

  pub view-past : (c : Class) (h : Bool) (i : ℕ) → length vs ≤ i → store_view vs c h ≡ removed (store_view vs c h) i
  view-past c h i ge = view-absent c h i (ap is_some (get_or_past vs i None ge))

  module _ (ws : Values) (i : ℕ) (is : ws ≡ set vs i None) (lt : i < length vs) (some : is_some (get_or vs i None) ≡ true) where
    gone : get_or ws i None ≡ None
    gone = ap (λ xs. get_or xs i None) is ∙ get_or-set_same vs i None None lt

    others : (q : ℕ) → q ≢ i → get_or ws q None ≡ get_or vs q None
    others q ne = ap (λ xs. get_or xs q None) is ∙ get-set vs i q None ne

    taken : properties_of ws ≡ map_of.remove (properties_of vs) i
    taken = listed_without vs ws i gone others

    length-taken : length ws ≡ length vs
    length-taken = ap length is ∙ length-set vs i None

    pub view-inner : (c : Class) (h : Bool) → i + 1 ≢ end → store_view ws c true ≡ removed (store_view vs c h) i
    view-inner c h ne =
        let f : eqb (i + 1) end ≡ false = grind (arith, nat_tests, ne) in
        let g : leaves_hole (properties_of vs) i ≡ true = hole-is i true false some f in
        λ t. record { properties = taken t; kind = (sym (holey_from-kind_of c h) ∙ ap (λ b. cond b (holey_from (kind_of c h)) (kind_of c h)) (sym g)) t; capacity = length-taken t }

    pub view-last : (c : Class) (h : Bool) → i + 1 ≡ end → store_view ws c h ≡ removed (store_view vs c h) i
    view-last c h e =
        let f : eqb (i + 1) end ≡ true = grind (arith, nat_tests, e) in
        let g : leaves_hole (properties_of vs) i ≡ false = hole-is i true true some f in
        λ t. record { properties = taken t; kind = cond (sym g t) (holey_from (kind_of c h)) (kind_of c h); capacity = length-taken t }

    pub steps-last : (c : Class) (h : Bool) (below : ℕ) → i + 1 ≡ end → IsSoundStore ws below → steps_to_remove (store_view vs c h) i ≡ 2 + steps_down i below
    steps-last c h below e s =
        let f : eqb (i + 1) end ≡ true = grind (arith, nat_tests, e) in
        let n : end_of (map_of.remove (properties_of vs) i) ≡ below = ap end_of (sym taken) ∙ end_sound ws below s in
        steps_are c h i false true false (within c h i lt) (there-is i true some) (hole-is i true true some f) ∙ ap (λ k. 2 + steps_down i k) n

    pub sound-last : (below : ℕ) → i + 1 ≡ end → below ≤ i → ((q : ℕ) → below ≤ q → q < i → get_or ws q None ≡ None) → (0 < below → is_some (get_or ws (below - 1) None) ≡ true) → IsSoundStore ws below
    sound-last below e within holes last = record {
      past = λ q ge. elim (cases_lt q i) [
        | inl lt ↦ holes q ge lt
        | inr above ↦ elim (cases_lt i q) [
          | inl gt ↦ others q (omega arith) ∙ sound.past q (omega arith)
          | inr le ↦ let k : q ≡ i = omega arith in ap (λ j. get_or ws j None) k ∙ gone
        ]
      ];
      last = last;
      room = let n = length-taken in let r = sound.room in omega arith;
    }

pub start_removed : (i : ℕ) → start ≡ removed start i
start_removed i = sym empty_view ∙ view-absent [] 0 nothing class.Smi false i refl ∙ ap (λ v. removed v i) empty_view
  where
    nothing : IsSoundStore [] 0
    nothing = record { past = λ q ge. refl; last = λ l. absurd (omega arith); room = omega arith }
