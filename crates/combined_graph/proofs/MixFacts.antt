-- The records of a text tell the mix that is read of them.
use Rattle.std.proofs.Common.{◌≡◌, ◌≤◌, ◌<◌, ◌+◌, ◌-◌, ℕ, zero, suc, Bool, true, false, cond, ◌&&◌, not, nat_eq, nat_lt}
use Rattle.std.proofs.Common.{nat_le, List, [], ◌∷◌, ◌++◌, length, map, get_or, replicate, Option, Some, None, Result}
use Rattle.std.proofs.Common.{Ok, Err, refl, sym, ◌∙◌, ap, subst, arith, append_assoc, length-append, inl, inr}
use Rattle.std.specs.Prelude.{◌⊎◌, codes, bytes_eq, filter_map, is_some, slice_set}
use Rattle.std.specs.List.{prefix_len, position_or_len, cons_option}
use Rattle.std.specs.Option.{option_to_list}
use Rattle.std.proofs.lemmas.Bool.{cases_eq, cases_lt}
use Rattle.std.proofs.lemmas.Bool.Decides.{nat_tests}
use Rattle.std.proofs.lemmas.List.{append-nil, map-append, get_or-set_same, get_or-set_other, get_or_past}
use Rattle.std.proofs.lemmas.List.{get_or-replicate, length-set, length-replicate}
use Rattle.std.proofs.lemmas.List.Elements.{filter_map-append}
use Rattle.std.proofs.lemmas.List.Quantifiers.{position-Some}
use Rattle.std.proofs.lemmas.Slice.Eq.{bytes_eq-Decides}
use Rattle.std.proofs.Math.ListN.{get_or-append}
use Rattle.std.proofs.Math.Seq.{get_or-append_seam, map-set_same}
use Rattle.line_io.specs.Lines.{number_in, value_of, is_number}
use Rattle.line_io.specs.declared.text.Num.{Num}
use Rattle.line_io.specs.declared.text.Num.TheVariants.{Value, NotANumber, Above}
use Rattle.combined_graph.specs.Mixes.{LineModel, MixedLine, model_at, model_named, given_time, is_name, arc_count}
use Rattle.combined_graph.specs.Records.{Fields, mix_records}
use Rattle.combined_graph.specs.MixText.{IsMixRead}
use Rattle.combined_graph.specs.declared.mix_text.MixRead.{MixRead}
use Rattle.combined_graph.specs.declared.mix_text.MixRead.TheVariants.{Good}
use Rattle.combined_graph.specs.MixRecords.{Said, next, named, if_empty, bounded, positive, tasked, with_model}
use Rattle.combined_graph.specs.MixRecords.{with_time}
use Rattle.combined_graph.specs.MixRecords.{with_arc, model_for, time_for, arc_for, model_said, time_said, arc_said}
use Rattle.combined_graph.specs.MixRecords.{fields_said, record_said, tasks_said, first_said, empty_mix, at_record}
use Rattle.combined_graph.specs.MixRecords.{rest_said, records_said}
use Rattle.combined_graph.specs.Contents.{model_in, time_in, arc_in, IsMixOf}
use Rattle.combined_graph.specs.declared.fault.MixFault.{MixFault}
use Rattle.combined_graph.specs.declared.fault.MixKind.TheVariants.{Form, TooManyModels, RepeatedTime, TooManyArcs}
use Rattle.combined_graph.specs.declared.fault.MixKind.TheVariants.{NoModel}
use Rattle.line_io.proofs.FilePlaces.{unlike}

-- ---- one record more

fm_none : {Y : Type 0} (h : Fields → Option Y) (xs : List Fields) (x : Fields) → h x ≡ None
    → filter_map h (xs ++ x ∷ []) ≡ filter_map h xs
fm_none h xs x e = filter_map-append h xs (x ∷ []) ∙ ap (λ o. filter_map h xs ++ cons_option o []) e
    ∙ append-nil (filter_map h xs)

fm_some : {Y : Type 0} (h : Fields → Option Y) (xs : List Fields) (x : Fields) (y : Y) → h x ≡ Some y
    → filter_map h (xs ++ x ∷ []) ≡ filter_map h xs ++ y ∷ []
fm_some h xs x y e = filter_map-append h xs (x ∷ []) ∙ ap (λ o. filter_map h xs ++ cons_option o []) e

-- ---- names

passes_first : {X : Type 0} (p : X → Bool) (xs : List X) (k : ℕ) (d : X) → k < length xs → p (get_or xs k d) ≡ true
    → position_or_len p xs < length xs
passes_first p [] k d h e = absurd (omega (arith, h))
passes_first p (x ∷ xs) zero d h e = subst P (sym e) (omega arith)
  where
    P : Bool → Type 0
    P b = cond (not b) (1 + prefix_len (λ x. not (p x)) xs) 0 < suc (length xs)
passes_first p (x ∷ xs) (suc k) d h e = by (p x) (passes_first p xs k d (omega (arith, h)) e)
  where
    by : (b : Bool) → position_or_len p xs < length xs → cond (not b) (1 + prefix_len (λ x. not (p x)) xs) 0
        < suc (length xs)
    by true less = omega arith
    by false less = omega (arith, less)

abbrev pub IsFresh : List LineModel → List ℕ → Type 0
IsFresh models name = (k : ℕ) → k < length models → (model_at models k).name ≡ name → ⊥

fresh : (models : List LineModel) (name : List ℕ) → model_named models name ≡ None → IsFresh models name
fresh models name h k less e =
    let test : bytes_eq (model_at models k).name name ≡ true = (bytes_eq-Decides (model_at models k).name name).1 e in
    let within = passes_first (λ m. bytes_eq m.name name) models k
    (record { name = []; demand = 0; times = []; arcs = [] }) less test in
    let there : nat_lt (position_or_len (λ m. bytes_eq m.name name) models) (length models) ≡ true =
    grind (arith, nat_tests) in
    cc (rw there at h)

pub record IsThere (models : List LineModel) (name : List ℕ) (m : ℕ) : Type 0 where
  pub within : m < length models
  pub is : (model_at models m).name ≡ name

there : (models : List LineModel) (name : List ℕ) (m : ℕ) → model_named models name ≡ Some m → IsThere models name m
there models name m h =
    let p = position-Some (λ x. bytes_eq x.name name) models m (record { name = []; demand = 0; times = []; arcs = [] })
    h in
    record { within = p.0; is = (bytes_eq-Decides (model_at models m).name name).0 p.1 }

-- ---- what the records so far tell

pub record Told (tasks : ℕ) (done : List Fields) (mix : MixedLine) : Type 0 where
  pub number : mix.tasks ≡ tasks
  pub many : (m : ℕ) → m < length mix.models → length (model_at mix.models m).times ≡ mix.tasks
  pub once : (j k : ℕ) → j < length mix.models → k < length mix.models
      → (model_at mix.models j).name ≡ (model_at mix.models k).name → j ≡ k
  pub models : map (λ m. (m.name, m.demand)) mix.models ≡ filter_map model_in done
  pub times : (m t : ℕ) → m < length mix.models → option_to_list (given_time (model_at mix.models m) t)
      ≡ filter_map (time_in (model_at mix.models m).name t) done
  pub arcs : (m : ℕ) → m < length mix.models → (model_at mix.models m).arcs
      ≡ filter_map (arc_in (model_at mix.models m).name) done
  pub other_times : (name : List ℕ) (t : ℕ) → IsFresh mix.models name → filter_map (time_in name t) done ≡ []
  pub other_arcs : (name : List ℕ) → IsFresh mix.models name → filter_map (arc_in name) done ≡ []

pub told_none : (tasks : ℕ) → Told tasks [] (record { tasks = tasks; models = [] })
told_none tasks = record {
  number = refl;
  many = λ m h. absurd (omega (arith, h));
  once = λ j k h g e. absurd (omega (arith, h));
  models = refl;
  times = λ m t h. absurd (omega (arith, h));
  arcs = λ m h. absurd (omega (arith, h));
  other_times = λ name t f. refl;
  other_arcs = λ name f. refl;
}

-- one more model
module _ (n : ℕ) (done : List Fields) (mix : MixedLine) (name demand : List ℕ) (d : ℕ) (t : Told n done mix)
    (is : value_of demand ≡ d) (new : IsFresh mix.models name) where
  abbrev pub model : LineModel
  model = record { name = name; demand = d; times = replicate mix.tasks None; arcs = [] }

  abbrev pub grown : List LineModel
  grown = mix.models ++ model ∷ []

  old : (m : ℕ) → m < length mix.models → model_at grown m ≡ model_at mix.models m
  old m h = get_or-append mix.models (model ∷ []) (record { name = []; demand = 0; times = []; arcs = [] }) m h

  last : (m : ℕ) → m ≡ length mix.models → model_at grown m ≡ model
  last m e = ap (model_at grown) e ∙ get_or-append_seam mix.models model []
      (record { name = []; demand = 0; times = []; arcs = [] })

  which : (m : ℕ) → m < length grown → (m < length mix.models) ⊎ (m ≡ length mix.models)
  which m h = elim (cases_lt m (length mix.models)) [
    | inl l ↦ inl l
    | inr g ↦
        inr (omega (arith, h, g, length-append mix.models (model ∷ [])))
  ]

  still_fresh : (other : List ℕ) → IsFresh grown other → IsFresh mix.models other
  still_fresh other f k h e = f k (omega (arith, h, length-append mix.models (model ∷ [])))
      (ap (λ m. m.name) (old k h) ∙ e)

  no_time : (t : ℕ) → given_time model t ≡ None
  no_time t = elim (cases_lt t mix.tasks) [
    | inl l ↦ get_or-replicate mix.tasks t None None l
    | inr g ↦ get_or_past (replicate mix.tasks None) t None
        (omega (arith, g, length-replicate {A = Option ℕ} mix.tasks None))
  ]

  pub told_model : Told n (done ++ (codes "model" ∷ name ∷ demand ∷ [] ∷ []) ∷ []) (with_model mix name d)
  told_model = record {
    number = t.number;
    many = λ m h. elim (which m h) [
      | inl l ↦ ap (λ x. length x.times) (old m l) ∙ t.many m l
      | inr e ↦ ap (λ x. length x.times) (last m e) ∙ length-replicate mix.tasks None
    ];
    once = λ j k h g e. elim (which j h) [
      | inl l ↦ elim (which k g) [
        | inl r ↦ t.once j k l r (ap (λ m. m.name) (sym (old j l)) ∙ e ∙ ap (λ m. m.name) (old k r))
        | inr r ↦ absurd (new j l (ap (λ m. m.name) (sym (old j l)) ∙ e ∙ ap (λ m. m.name) (last k r)))
      ]
      | inr l ↦ elim (which k g) [
        | inl r ↦ absurd (new k r (ap (λ m. m.name) (sym (old k r)) ∙ sym e ∙ ap (λ m. m.name) (last j l)))
        | inr r ↦ l ∙ sym r
      ]
    ];
    models = map-append (λ m. (m.name, m.demand)) mix.models (model ∷ []) ∙ ap (λ xs. xs ++ (name, d) ∷ []) t.models
        ∙ ap (λ y. filter_map model_in done ++ (name, y) ∷ []) (sym is)
        ∙ sym (fm_some model_in done (codes "model" ∷ name ∷ demand ∷ [] ∷ []) (name, value_of demand) refl);
    times = λ m k h. elim (which m h) [
      | inl l ↦ ap (λ x. option_to_list (given_time x k)) (old m l) ∙ t.times m k l
          ∙ ap (λ x. filter_map (time_in x.name k) done) (sym (old m l))
          ∙ sym (fm_none (time_in (model_at grown m).name k) done (codes "model" ∷ name ∷ demand ∷ [] ∷ []) refl)
      | inr e ↦ ap (λ x. option_to_list (given_time x k)) (last m e) ∙ ap option_to_list (no_time k)
          ∙ sym (t.other_times name k new) ∙ ap (λ x. filter_map (time_in x.name k) done) (sym (last m e))
          ∙ sym (fm_none (time_in (model_at grown m).name k) done (codes "model" ∷ name ∷ demand ∷ [] ∷ []) refl)
    ];
    arcs = λ m h. elim (which m h) [
      | inl l ↦ ap (λ x. x.arcs) (old m l) ∙ t.arcs m l ∙ ap (λ x. filter_map (arc_in x.name) done) (sym (old m l))
          ∙ sym (fm_none (arc_in (model_at grown m).name) done (codes "model" ∷ name ∷ demand ∷ [] ∷ []) refl)
      | inr e ↦ ap (λ x. x.arcs) (last m e) ∙ sym (t.other_arcs name new)
          ∙ ap (λ x. filter_map (arc_in x.name) done) (sym (last m e))
          ∙ sym (fm_none (arc_in (model_at grown m).name) done (codes "model" ∷ name ∷ demand ∷ [] ∷ []) refl)
    ];
    other_times = λ other k f. fm_none (time_in other k) done (codes "model" ∷ name ∷ demand ∷ [] ∷ []) refl
        ∙ t.other_times other k (still_fresh other f);
    other_arcs = λ other f. fm_none (arc_in other) done (codes "model" ∷ name ∷ demand ∷ [] ∷ []) refl
        ∙ t.other_arcs other (still_fresh other f);
  }

-- one model in the place of another of the same name
module _ (mix : MixedLine) (m : ℕ) (new : LineModel) (within : m < length mix.models)
    (name_is : new.name ≡ (model_at mix.models m).name) where
  abbrev pub changed : List LineModel
  changed = slice_set mix.models m new

  there_now : model_at changed m ≡ new
  there_now = get_or-set_same mix.models m new (record { name = []; demand = 0; times = []; arcs = [] }) within

  elsewhere : (j : ℕ) → (j ≡ m → ⊥) → model_at changed j ≡ model_at mix.models j
  elsewhere j n = get_or-set_other mix.models m j new (record { name = []; demand = 0; times = []; arcs = [] }) n

  as_many : length changed ≡ length mix.models
  as_many = length-set mix.models m new

  same_name : (j : ℕ) → (model_at changed j).name ≡ (model_at mix.models j).name
  same_name j = elim (cases_eq j m) [
    | inl e ↦ ap (λ k. (model_at changed k).name) e ∙ ap (λ x. x.name) there_now ∙ name_is
        ∙ ap (λ k. (model_at mix.models k).name) (sym e)
    | inr n ↦ ap (λ x. x.name) (elsewhere j n)
  ]

  fresh_before : (other : List ℕ) → IsFresh changed other → IsFresh mix.models other
  fresh_before other f k h e = f k (omega (arith, h, as_many)) (same_name k ∙ e)

  fresh_is_other : (name other : List ℕ) → name ≡ (model_at mix.models m).name → IsFresh changed other → name ≡ other
      → ⊥
  fresh_is_other name other i f e = f m (omega (arith, within, as_many)) (same_name m ∙ sym i ∙ e)

  still_once : (n : ℕ) (done : List Fields) → Told n done mix → (j k : ℕ) → j < length changed → k < length changed
      → (model_at changed j).name ≡ (model_at changed k).name → j ≡ k
  still_once n done t j k h g e = t.once j k (omega (arith, h, as_many)) (omega (arith, g, as_many))
      (sym (same_name j) ∙ e ∙ same_name k)

-- one more time
time_else : (name other task time : List ℕ) (k : ℕ) → (bytes_eq name other && nat_eq (value_of task) (k + 1)) ≡ false
    → time_in other k (codes "time" ∷ name ∷ task ∷ time ∷ []) ≡ None
time_else name other task time k e = ap (λ b. cond b (Some (value_of time)) None) e

module _ (n : ℕ) (done : List Fields) (mix : MixedLine) (name task time : List ℕ) (m t v : ℕ) (h : Told n done mix)
    (at : IsThere mix.models name m)
    (none : given_time (model_at mix.models m) t ≡ None) (task_is : value_of task ≡ t + 1) (small : t < mix.tasks)
    (time_is : value_of time ≡ v) where
  abbrev pub timed : LineModel
  timed = record (model_at mix.models m) { times = slice_set (model_at mix.models m).times t (Some v) }

  abbrev pub now : List LineModel
  now = slice_set mix.models m timed

  room : t < length (model_at mix.models m).times
  room = omega (arith, h.many m at.within, small)

  this_time : time_in name t (codes "time" ∷ name ∷ task ∷ time ∷ []) ≡ Some v
  this_time =
      let own : bytes_eq name name ≡ true = (bytes_eq-Decides name name).1 refl in
      let same : nat_eq (value_of task) (t + 1) ≡ true = grind (arith, nat_tests) in
      rw (own, same) (ap (λ x. Some x) time_is)

  other_task : (k : ℕ) (other : List ℕ) → (k ≡ t → ⊥) → time_in other k (codes "time" ∷ name ∷ task ∷ time ∷ []) ≡ None
  other_task k other n =
      let differs : nat_eq (value_of task) (k + 1) ≡ false = grind (arith, nat_tests) in
      time_else name other task time k (rw differs (and_false (bytes_eq name other)))
    where
      and_false : (b : Bool) → (b && false) ≡ false
      and_false true = refl
      and_false false = refl

  other_model : (k : ℕ) (other : List ℕ) → (name ≡ other → ⊥)
      → time_in other k (codes "time" ∷ name ∷ task ∷ time ∷ []) ≡ None
  other_model k other n = time_else name other task time k (ap (λ b. b && nat_eq (value_of task) (k + 1))
      (unlike name other n))

  given_now : (k : ℕ) → option_to_list (given_time timed k)
      ≡ filter_map (time_in name k) (done ++ (codes "time" ∷ name ∷ task ∷ time ∷ []) ∷ [])
  given_now k =
      let before : option_to_list (given_time (model_at mix.models m) k) ≡ filter_map (time_in name k) done =
      h.times m k at.within ∙ ap (λ y. filter_map (time_in y k) done) at.is in
      elim (cases_eq k t) [
        | inl e ↦
            let P : ℕ → Type 0 = λ k. option_to_list (given_time timed k)
            ≡ filter_map (time_in name k) (done ++ (codes "time" ∷ name ∷ task ∷ time ∷ []) ∷ []) in
            let empty : filter_map (time_in name t) done ≡ [] =
            sym (h.times m t at.within ∙ ap (λ y. filter_map (time_in y t) done) at.is) ∙ ap option_to_list none in
            subst P (sym e)
            (ap option_to_list (get_or-set_same (model_at mix.models m).times t (Some v) None room)
            ∙ ap (λ xs. xs ++ v ∷ []) (sym empty) ∙ sym (fm_some (time_in name t) done
            (codes "time" ∷ name ∷ task ∷ time ∷ []) v this_time))
        | inr n ↦ ap option_to_list (get_or-set_other (model_at mix.models m).times t k (Some v) None n) ∙ before
            ∙ sym (fm_none (time_in name k) done (codes "time" ∷ name ∷ task ∷ time ∷ []) (other_task k name n))
      ]

  pub told_time : Told n (done ++ (codes "time" ∷ name ∷ task ∷ time ∷ []) ∷ []) (with_time mix m t v)
  told_time = record {
    number = h.number;
    many = λ j g. elim (cases_eq j m) [
      | inl e ↦ ap (λ k. length (model_at now k).times) e ∙ ap (λ x. length x.times)
          (there_now mix m timed at.within refl) ∙ length-set (model_at mix.models m).times t (Some v)
          ∙ h.many m at.within
      | inr n ↦ ap (λ x. length x.times) (elsewhere mix m timed at.within refl j n)
          ∙ h.many j (omega (arith, g, as_many mix m timed at.within refl))
    ];
    once = still_once mix m timed at.within refl n done h;
    models = map-set_same (λ m. (m.name, m.demand)) mix.models m timed
        (record { name = []; demand = 0; times = []; arcs = [] }) refl ∙ h.models
        ∙ sym (fm_none model_in done (codes "time" ∷ name ∷ task ∷ time ∷ []) refl);
    times = λ j k g. elim (cases_eq j m) [
      | inl e ↦
          ap (λ j. option_to_list (given_time (model_at now j) k)) e
          ∙ ap (λ x. option_to_list (given_time x k)) (there_now mix m timed at.within refl) ∙ given_now k
          ∙ ap (λ y. filter_map (time_in y k) (done ++ (codes "time" ∷ name ∷ task ∷ time ∷ []) ∷ []))
          (sym (ap (λ j. (model_at now j).name) e ∙ same_name mix m timed at.within refl m ∙ at.is))
      | inr n ↦
          let inside : j < length mix.models = omega (arith, g, as_many mix m timed at.within refl) in
          let differs : name ≡ (model_at now j).name → ⊥ = λ q.
          n (h.once j m inside at.within (sym (same_name mix m timed at.within refl j) ∙ sym q ∙ sym at.is)) in
          ap (λ x. option_to_list (given_time x k)) (elsewhere mix m timed at.within refl j n) ∙ h.times j k inside
          ∙ ap (λ y. filter_map (time_in y k) done) (sym (same_name mix m timed at.within refl j))
          ∙ sym (fm_none (time_in (model_at now j).name k) done (codes "time" ∷ name ∷ task ∷ time ∷ [])
          (other_model k (model_at now j).name differs))
    ];
    arcs = λ j g.
        same_arcs j ∙ h.arcs j (omega (arith, g, as_many mix m timed at.within refl))
        ∙ ap (λ y. filter_map (arc_in y) done) (sym (same_name mix m timed at.within refl j))
        ∙ sym (fm_none (arc_in (model_at now j).name) done (codes "time" ∷ name ∷ task ∷ time ∷ []) refl);
    other_times = λ other k f.
        fm_none (time_in other k) done (codes "time" ∷ name ∷ task ∷ time ∷ [])
        (other_model k other (fresh_is_other mix m timed at.within refl name other (sym at.is) f))
        ∙ h.other_times other k (fresh_before mix m timed at.within refl other f);
    other_arcs = λ other f. fm_none (arc_in other) done (codes "time" ∷ name ∷ task ∷ time ∷ []) refl
        ∙ h.other_arcs other (fresh_before mix m timed at.within refl other f);
  }
    where
      same_arcs : (j : ℕ) → (model_at now j).arcs ≡ (model_at mix.models j).arcs
      same_arcs j = elim (cases_eq j m) [
        | inl e ↦ ap (λ k. (model_at now k).arcs) e ∙ ap (λ x. x.arcs) (there_now mix m timed at.within refl)
            ∙ ap (λ k. (model_at mix.models k).arcs) (sym e)
        | inr n ↦ ap (λ x. x.arcs) (elsewhere mix m timed at.within refl j n)
      ]

-- one more arc
arc_else : (name other i j : List ℕ) → bytes_eq name other ≡ false
    → arc_in other (codes "arc" ∷ name ∷ i ∷ j ∷ []) ≡ None
arc_else name other i j e = ap (λ b. cond b (Some (record { first = value_of i - 1; «then» = value_of j - 1 })) None) e

module _ (n : ℕ) (done : List Fields) (mix : MixedLine) (name first second : List ℕ) (m i j : ℕ) (h : Told n done mix)
    (at : IsThere mix.models name m)
    (first_is : value_of first ≡ i + 1) (second_is : value_of second ≡ j + 1) where
  abbrev pub arced : LineModel
  arced = record (model_at mix.models m) {
    arcs = (model_at mix.models m).arcs
        ++ record { first = i; «then» = j } ∷ [];
  }

  abbrev pub after_arc : List LineModel
  after_arc = slice_set mix.models m arced

  this_arc : arc_in name (codes "arc" ∷ name ∷ first ∷ second ∷ []) ≡ Some (record { first = i; «then» = j })
  this_arc =
      let own : bytes_eq name name ≡ true = (bytes_eq-Decides name name).1 refl in
      let a : value_of first - 1 ≡ i = omega (arith, first_is) in
      let b : value_of second - 1 ≡ j = omega (arith, second_is) in
      rw (own, a, b) refl

  other_arc : (other : List ℕ) → (name ≡ other → ⊥) → arc_in other (codes "arc" ∷ name ∷ first ∷ second ∷ []) ≡ None
  other_arc other n = arc_else name other first second (unlike name other n)

  arcs_now : arced.arcs ≡ filter_map (arc_in name) (done ++ (codes "arc" ∷ name ∷ first ∷ second ∷ []) ∷ [])
  arcs_now =
      ap (λ xs. xs ++ record { first = i; «then» = j } ∷ [])
      (h.arcs m at.within ∙ ap (λ y. filter_map (arc_in y) done) at.is)
      ∙ sym (fm_some (arc_in name) done (codes "arc" ∷ name ∷ first ∷ second ∷ []) (record { first = i; «then» = j })
      this_arc)

  same_times : (k : ℕ) → (model_at after_arc k).times ≡ (model_at mix.models k).times
  same_times k = elim (cases_eq k m) [
    | inl e ↦ ap (λ k. (model_at after_arc k).times) e ∙ ap (λ x. x.times) (there_now mix m arced at.within refl)
        ∙ ap (λ k. (model_at mix.models k).times) (sym e)
    | inr n ↦ ap (λ x. x.times) (elsewhere mix m arced at.within refl k n)
  ]

  pub told_arc : Told n (done ++ (codes "arc" ∷ name ∷ first ∷ second ∷ []) ∷ []) (with_arc mix m i j)
  told_arc = record {
    number = h.number;
    many = λ k g. ap length (same_times k) ∙ h.many k (omega (arith, g, as_many mix m arced at.within refl));
    once = still_once mix m arced at.within refl n done h;
    models = map-set_same (λ m. (m.name, m.demand)) mix.models m arced
        (record { name = []; demand = 0; times = []; arcs = [] }) refl ∙ h.models
        ∙ sym (fm_none model_in done (codes "arc" ∷ name ∷ first ∷ second ∷ []) refl);
    times = λ k u g.
        ap (λ ts. option_to_list (get_or ts u None)) (same_times k)
        ∙ h.times k u (omega (arith, g, as_many mix m arced at.within refl))
        ∙ ap (λ y. filter_map (time_in y u) done) (sym (same_name mix m arced at.within refl k))
        ∙ sym (fm_none (time_in (model_at after_arc k).name u) done (codes "arc" ∷ name ∷ first ∷ second ∷ []) refl);
    arcs = λ k g. elim (cases_eq k m) [
      | inl e ↦
          ap (λ k. (model_at after_arc k).arcs) e ∙ ap (λ x. x.arcs) (there_now mix m arced at.within refl) ∙ arcs_now
          ∙ ap (λ y. filter_map (arc_in y) (done ++ (codes "arc" ∷ name ∷ first ∷ second ∷ []) ∷ []))
          (sym (ap (λ k. (model_at after_arc k).name) e ∙ same_name mix m arced at.within refl m ∙ at.is))
      | inr n ↦
          let inside : k < length mix.models = omega (arith, g, as_many mix m arced at.within refl) in
          let differs : name ≡ (model_at after_arc k).name → ⊥ =
          λ q. n (h.once k m inside at.within (sym (same_name mix m arced at.within refl k) ∙ sym q ∙ sym at.is)) in
          ap (λ x. x.arcs) (elsewhere mix m arced at.within refl k n) ∙ h.arcs k inside
          ∙ ap (λ y. filter_map (arc_in y) done) (sym (same_name mix m arced at.within refl k))
          ∙ sym (fm_none (arc_in (model_at after_arc k).name) done (codes "arc" ∷ name ∷ first ∷ second ∷ [])
          (other_arc (model_at after_arc k).name differs))
    ];
    other_times = λ other u f. fm_none (time_in other u) done (codes "arc" ∷ name ∷ first ∷ second ∷ []) refl
        ∙ h.other_times other u (fresh_before mix m arced at.within refl other f);
    other_arcs = λ other f.
        fm_none (arc_in other) done (codes "arc" ∷ name ∷ first ∷ second ∷ [])
        (other_arc other (fresh_is_other mix m arced at.within refl name other (sym at.is) f))
        ∙ h.other_arcs other (fresh_before mix m arced at.within refl other f);
  }

-- ---- what a record says, from what it made

next_ok : {A B : Type 0} (s : Said A) (more : A → Said B) (y : B) → next s more ≡ Ok y
    → (x : A) × (s ≡ Ok x) × (more x ≡ Ok y)
next_ok (Err kind) more y h = cc h
next_ok (Ok x) more y h = (x, refl, h)

named_ok : {A : Type 0} (name : List ℕ) (s : Said A) (y : A) → named name s ≡ Ok y → s ≡ Ok y
named_ok name s y h = by (is_name name) h
  where
    by : (b : Bool) → cond b s (Err Form) ≡ Ok y → s ≡ Ok y
    by true e = e
    by false e = cc e

empty_ok : {A : Type 0} (field : List ℕ) (s : Said A) (y : A) → if_empty field s ≡ Ok y → (field ≡ []) × (s ≡ Ok y)
empty_ok [] s y h = (refl, h)
empty_ok (b ∷ bytes) s y h = cc h

number_ok : (most v : ℕ) (field : List ℕ) → number_in most field ≡ Value v → (value_of field ≡ v) × (v ≤ most)
number_ok most v field h = by (is_number field) (nat_le (value_of field) most) refl h
  where
    by : (a b : Bool) → nat_le (value_of field) most ≡ b → cond a (cond b (Value (value_of field)) Above) NotANumber
        ≡ Value v → (value_of field ≡ v) × (v ≤ most)
    by true true e g =
        let is : value_of field ≡ v = cc g in
        let few : value_of field ≤ most = grind (arith, nat_tests) in
        (is, omega (arith, is, few))
    by true false e g = cc g
    by false b e g = cc g

bounded_ok : (n : Num) (v : ℕ) → bounded n ≡ Ok v → n ≡ Value v
bounded_ok NotANumber v h = cc h
bounded_ok Above v h = cc h
bounded_ok (Value x) v h = cc h

positive_ok : (n : Num) (v : ℕ) → positive n ≡ Ok v → n ≡ Value v
positive_ok NotANumber v h = cc h
positive_ok Above v h = cc h
positive_ok (Value zero) v h = cc h
positive_ok (Value (suc x)) v h = cc h

tasked_ok : (n : Num) (t : ℕ) → tasked n ≡ Ok (Some t) → n ≡ Value (suc t)
tasked_ok NotANumber t h = cc h
tasked_ok Above t h = cc h
tasked_ok (Value zero) t h = cc h
tasked_ok (Value (suc x)) t h = cc h

task_ok : (tasks t : ℕ) (field : List ℕ) → tasked (number_in tasks field) ≡ Ok (Some t)
    → (value_of field ≡ t + 1) × (t < tasks)
task_ok tasks t field h =
    let n = number_ok tasks (suc t) field (tasked_ok (number_in tasks field) t h) in
    (omega (arith, n.0), omega (arith, n.1))

model_ok : (mix new : MixedLine) (name : List ℕ) (d : ℕ) (o : Option ℕ) → model_for mix o name d ≡ Ok new
    → (o ≡ None) × (new ≡ with_model mix name d)
model_ok mix new name d (Some m) h = cc h
model_ok mix new name d None h = (refl, by (nat_lt (length mix.models) 16) h)
  where
    by : (b : Bool) → ◌≡◌ {A = Said MixedLine} (cond b (Ok (with_model mix name d)) (Err TooManyModels)) (Ok new)
        → new ≡ with_model mix name d
    by true e = cc e
    by false e = cc e

-- the place, the task, that no time was given, and the new mix
pub record IsTimed (mix new : MixedLine) (o : Option ℕ) (s : Option ℕ) (v : ℕ) : Type 0 where
  pub m : ℕ
  pub t : ℕ
  pub place : o ≡ Some m
  pub task : s ≡ Some t
  pub none : given_time (model_at mix.models m) t ≡ None
  pub is : new ≡ with_time mix m t v

time_ok : (mix new : MixedLine) (o s : Option ℕ) (v : ℕ) → time_for mix o s v ≡ Ok new → IsTimed mix new o s v
time_ok mix new None s v h = cc h
time_ok mix new (Some m) None v h = cc h
time_ok mix new (Some m) (Some t) v h = by (given_time (model_at mix.models m) t) refl h
  where
    by : (g : Option ℕ) → given_time (model_at mix.models m) t ≡ g
        → ◌≡◌ {A = Said MixedLine} (cond (is_some g) (Err RepeatedTime) (Ok (with_time mix m t v))) (Ok new)
        → IsTimed mix new (Some m) (Some t) v
    by None e q = record { m = m; t = t; place = refl; task = refl; none = e; is = cc q }
    by (Some x) e q = cc q

pub record IsArced (mix new : MixedLine) (o a b : Option ℕ) : Type 0 where
  pub m : ℕ
  pub i : ℕ
  pub j : ℕ
  pub place : o ≡ Some m
  pub first : a ≡ Some i
  pub second : b ≡ Some j
  pub is : new ≡ with_arc mix m i j

arc_ok : (mix new : MixedLine) (o a b : Option ℕ) → arc_for mix o a b ≡ Ok new → IsArced mix new o a b
arc_ok mix new None a b h = cc h
arc_ok mix new (Some m) None b h = cc h
arc_ok mix new (Some m) (Some i) None h = cc h
arc_ok mix new (Some m) (Some i) (Some j) h = by (nat_lt (arc_count mix.models) 524288) h
  where
    by : (b : Bool) → ◌≡◌ {A = Said MixedLine} (cond b (Ok (with_arc mix m i j)) (Err TooManyArcs)) (Ok new)
        → IsArced mix new (Some m) (Some i) (Some j)
    by true e = record { m = m; i = i; j = j; place = refl; first = refl; second = refl; is = cc e }
    by false e = cc e

-- ---- the steps

by_model : (n : ℕ) (done : List Fields) (mix new : MixedLine) (name third fourth : List ℕ) → Told n done mix
    → model_said mix name third fourth ≡ Ok new
    → Told n (done ++ (codes "model" ∷ name ∷ third ∷ fourth ∷ []) ∷ []) new
by_model n done mix new name third fourth t h =
    let empty = empty_ok fourth (next (positive (number_in 10000 third))
    (λ d. model_for mix (model_named mix.models name) name d)) new (named_ok name _ new h) in
    let d = next_ok (positive (number_in 10000 third)) (λ d. model_for mix (model_named mix.models name) name d) new
    empty.1 in
    let is = number_ok 10000 d.0 third (positive_ok (number_in 10000 third) d.0 d.1) in
    let made = model_ok mix new name d.0 (model_named mix.models name) d.2 in
    let P : List ℕ → Type 0 = λ f. Told n (done ++ (codes "model" ∷ name ∷ third ∷ f ∷ []) ∷ []) new in
    let Q : MixedLine → Type 0 = λ x. Told n (done ++ (codes "model" ∷ name ∷ third ∷ [] ∷ []) ∷ []) x in
    subst P (sym empty.0) (subst Q (sym made.1) (told_model n done mix name third d.0 t is.0
    (fresh mix.models name made.0)))

by_time : (n : ℕ) (done : List Fields) (mix new : MixedLine) (name task time : List ℕ) → Told n done mix
    → time_said mix name task time ≡ Ok new
    → Told n (done ++ (codes "time" ∷ name ∷ task ∷ time ∷ []) ∷ []) new
by_time n done mix new name task time t h =
    let s = next_ok (tasked (number_in mix.tasks task)) (λ s.
    next (bounded (number_in 1000000000 time)) (λ v. time_for mix (model_named mix.models name) s v)) new
    (named_ok name _ new h) in
    let v = next_ok (bounded (number_in 1000000000 time)) (λ v. time_for mix (model_named mix.models name) s.0 v) new
    s.2 in
    let value = number_ok 1000000000 v.0 time (bounded_ok (number_in 1000000000 time) v.0 v.1) in
    let made = time_ok mix new (model_named mix.models name) s.0 v.0 v.2 in
    let at = there mix.models name made.m made.place in
    let number = task_ok mix.tasks made.t task (s.1 ∙ ap (λ x. Ok x) made.task) in
    let Q : MixedLine → Type 0 = λ x. Told n (done ++ (codes "time" ∷ name ∷ task ∷ time ∷ []) ∷ []) x in
    subst Q (sym made.is) (told_time n done mix name task time made.m made.t v.0 t at made.none number.0 number.1
    value.0)

by_arc : (n : ℕ) (done : List Fields) (mix new : MixedLine) (name first second : List ℕ) → Told n done mix
    → arc_said mix name first second ≡ Ok new
    → Told n (done ++ (codes "arc" ∷ name ∷ first ∷ second ∷ []) ∷ []) new
by_arc n done mix new name first second t h =
    let a = next_ok (tasked (number_in mix.tasks first)) (λ i.
    next (tasked (number_in mix.tasks second)) (λ j. arc_for mix (model_named mix.models name) i j)) new
    (named_ok name _ new h) in
    let b = next_ok (tasked (number_in mix.tasks second)) (λ j. arc_for mix (model_named mix.models name) a.0 j) new
    a.2 in
    let made = arc_ok mix new (model_named mix.models name) a.0 b.0 b.2 in
    let at = there mix.models name made.m made.place in
    let first_is = task_ok mix.tasks made.i first (a.1 ∙ ap (λ x. Ok x) made.first) in
    let second_is = task_ok mix.tasks made.j second (b.1 ∙ ap (λ x. Ok x) made.second) in
    let Q : MixedLine → Type 0 = λ x. Told n (done ++ (codes "arc" ∷ name ∷ first ∷ second ∷ []) ∷ []) x in
    subst Q (sym made.is) (told_arc n done mix name first second made.m made.i made.j t at first_is.0 second_is.0)

by_word : (n : ℕ) (done : List Fields) (mix new : MixedLine) (word name third fourth : List ℕ) → Told n done mix
    → fields_said mix word name third fourth ≡ Ok new
    → Told n (done ++ (word ∷ name ∷ third ∷ fourth ∷ []) ∷ []) new
by_word n done mix new word name third fourth t h = by (bytes_eq word (codes "model")) (bytes_eq word (codes "time"))
    (bytes_eq word (codes "arc")) refl refl refl h
  where
    P : List ℕ → Type 0
    P w = Told n (done ++ (w ∷ name ∷ third ∷ fourth ∷ []) ∷ []) new

    is : (w : List ℕ) → bytes_eq word w ≡ true → word ≡ w
    is w e = (bytes_eq-Decides word w).0 e

    by : (a b c : Bool) → bytes_eq word (codes "model") ≡ a → bytes_eq word (codes "time") ≡ b
        → bytes_eq word (codes "arc") ≡ c
        → cond a (model_said mix name third fourth) (cond b (time_said mix name third fourth)
        (cond c (arc_said mix name third fourth) (Err Form))) ≡ Ok new
        → Told n (done ++ (word ∷ name ∷ third ∷ fourth ∷ []) ∷ []) new
    by true b c e f g q = subst P (sym (is (codes "model") e)) (by_model n done mix new name third fourth t q)
    by false true c e f g q = subst P (sym (is (codes "time") f)) (by_time n done mix new name third fourth t q)
    by false false true e f g q = subst P (sym (is (codes "arc") g)) (by_arc n done mix new name third fourth t q)
    by false false false e f g q = cc q

pub told_more : (n : ℕ) (done : List Fields) (mix new : MixedLine) (fields : Fields) → Told n done mix
    → record_said mix fields ≡ Ok new → Told n (done ++ fields ∷ []) new
told_more n done mix new [] t h = cc h
told_more n done mix new (a ∷ []) t h = cc h
told_more n done mix new (a ∷ b ∷ []) t h = cc h
told_more n done mix new (a ∷ b ∷ c ∷ []) t h = cc h
told_more n done mix new (a ∷ b ∷ c ∷ d ∷ []) t h = by_word n done mix new a b c d t h
told_more n done mix new (a ∷ b ∷ c ∷ d ∷ e ∷ rest) t h = cc h

-- ---- all records

told_all : (n : ℕ) (rs done : List Fields) (k : ℕ) (mix new : MixedLine) → Told n done mix → rest_said rs k mix ≡ Ok new
    → Told n (done ++ rs) new
told_all n [] done k mix new t h = by (nat_lt 0 (length mix.models)) h
  where
    by : (b : Bool) → ◌≡◌ {A = Result MixedLine MixFault} (cond b (Ok mix) (Err (record { row = k; kind = NoModel })))
        (Ok new) → Told n (done ++ []) new
    by true e =
        let same : mix ≡ new = cc e in
        let P : List Fields → Type 0 = λ xs. Told n xs new in
        subst P (sym (append-nil done)) (subst (Told n done) same t)
    by false e = cc e
told_all n (r ∷ rs) done k mix new t h = by (record_said mix r) refl h
    (λ m u. told_all n rs (done ++ r ∷ []) (k + 1) m new u)
  where
    by : (s : Said MixedLine) → record_said mix r ≡ s → at_record k s (rest_said rs (k + 1)) ≡ Ok new
        → ((m : MixedLine) → Told n (done ++ r ∷ []) m → rest_said rs (k + 1) m ≡ Ok new
        → Told n ((done ++ r ∷ []) ++ rs) new) → Told n (done ++ r ∷ rs) new
    by (Err kind) e g more = cc g
    by (Ok m) e g more =
        let P : List Fields → Type 0 = λ xs. Told n xs new in
        subst P (append_assoc done (r ∷ []) rs) (more m (told_more n done mix m r t e) g)

-- the first record
pub record IsFirst (fields : Fields) (mix : MixedLine) : Type 0 where
  pub number : List ℕ
  pub all : fields ≡ codes "tasks" ∷ number ∷ [] ∷ [] ∷ []
  pub is : mix ≡ record { tasks = value_of number; models = [] }

by_tasks : (word number third fourth : List ℕ) (mix : MixedLine) → tasks_said word number third fourth ≡ Ok mix
    → IsFirst (word ∷ number ∷ third ∷ fourth ∷ []) mix
by_tasks word number third fourth mix h = by (bytes_eq word (codes "tasks")) refl h
  where
    by : (b : Bool) → bytes_eq word (codes "tasks") ≡ b → cond b
        (if_empty third (if_empty fourth (next (positive (number_in 1024 number)) (λ n. Ok (empty_mix n))))) (Err Form)
        ≡ Ok mix
        → IsFirst (word ∷ number ∷ third ∷ fourth ∷ []) mix
    by false e g = cc g
    by true e g =
        let one = empty_ok third (if_empty fourth (next (positive (number_in 1024 number)) (λ n. Ok (empty_mix n)))) mix
        g in
        let two = empty_ok fourth (next (positive (number_in 1024 number)) (λ n. Ok (empty_mix n))) mix one.1 in
        let n = next_ok (positive (number_in 1024 number)) (λ n. Ok (empty_mix n)) mix two.1 in
        let is = number_ok 1024 n.0 number (positive_ok (number_in 1024 number) n.0 n.1) in
        let same : word ≡ codes "tasks" = (bytes_eq-Decides word (codes "tasks")).0 e in
        let made : empty_mix n.0 ≡ mix = cc n.2 in
        record {
          number = number;
          all = ap (λ w. w ∷ number ∷ third ∷ fourth ∷ []) same
              ∙ ap (λ x. codes "tasks" ∷ number ∷ x ∷ fourth ∷ []) one.0
              ∙ ap (λ x. codes "tasks" ∷ number ∷ [] ∷ x ∷ []) two.0;
          is = sym made ∙ ap empty_mix (sym is.0);
        }

first_is : (fields : Fields) (mix : MixedLine) → first_said fields ≡ Ok mix → IsFirst fields mix
first_is [] mix h = cc h
first_is (a ∷ []) mix h = cc h
first_is (a ∷ b ∷ []) mix h = cc h
first_is (a ∷ b ∷ c ∷ []) mix h = cc h
first_is (a ∷ b ∷ c ∷ d ∷ []) mix h = by_tasks a b c d mix h
first_is (a ∷ b ∷ c ∷ d ∷ e ∷ rest) mix h = cc h

pub told : (records : List Fields) (mix : MixedLine) → records_said records ≡ Ok mix → IsMixOf records mix
told [] mix h = cc h
told (r ∷ rs) mix h = by (first_said r) refl h
  where
    by : (s : Said MixedLine) → first_said r ≡ s → at_record 1 s (rest_said rs 2) ≡ Ok mix → IsMixOf (r ∷ rs) mix
    by (Err kind) e g = cc g
    by (Ok m) e g =
        let first = first_is r m e in
        let t : Told (value_of first.number) rs mix = told_all (value_of first.number) rs [] 2 m mix
        (subst (Told (value_of first.number) []) (sym first.is) (told_none (value_of first.number))) g in
        record {
          number = first.number;
          rest = rs;
          all = ap (λ x. x ∷ rs) first.all;
          tasks = t.number;
          models = t.models;
          once = t.once;
          times = t.times;
          arcs = t.arcs;
        }

-- a mix that is answered is told by the records
pub answer_is_told : (bytes : List ℕ) (answer : MixRead) → IsMixRead bytes answer → (mix : MixedLine)
    → answer ≡ Good mix → IsMixOf (mix_records bytes) mix
answer_is_told bytes answer h mix e = told (mix_records bytes) mix (subst (IsMixRead bytes) e h)
