-- A value that is refused as an environment means none, and a document means one list of nodes.
use Rattle.std.proofs.Common.{◌≡◌, ℕ, List, length, None, Ok, Err, refl, sym, ap, subst, ◌∙◌, arith}
use Rattle.std.proofs.lemmas.Bool.{true≢false}
use Rattle.std.proofs.lemmas.Option.{same_Some}
use Rattle.jh_edn.specs.Edn.{Edn}
use Rattle.toml.specs.Data.{Members}
use Rattle.jh_env.specs.Cells.{Table}
use Rattle.jh_env.specs.Names.{AreFew, AreNodeNames, RefusesNames, RefusesSomeName}
use Rattle.jh_env.specs.Overlay.{EnvValue}
use Rattle.jh_env.specs.Text.{Keys, Shape, text_keys, shape_of}
use Rattle.jh_env.specs.TextCells.{SpellsEnv}
use Rattle.jh_env.specs.TextErrors.{HasShape, HasEntryError, RefusesTextNames, RefusesEntry, RefusesSpelledEnv}
use Rattle.jh_env.specs.declared.names.NodesError.{NodesError}
use Rattle.jh_env.specs.declared.names.NodesError.TheVariants as names
use Rattle.jh_env.specs.declared.texts.EnvTextError.{EnvTextError}
use Rattle.jh_env.specs.declared.texts.EnvTextError.TheVariants.{NotMap, UnknownKey, MissingNodes, BadEntry, NoNodes, TooManyNodes, BadName, DuplicateName, UnknownNode, SelfLink, BadAmount, RepeatedEntry, OutOfMemory}
use Rattle.jh_settings.specs.Inside.{start_refusal}
use Rattle.jh_settings.specs.Readers.{RefusesValue}
use Rattle.jh_settings.specs.Kinds.{HoldsElement}
use Rattle.jh_settings.specs.Parsed.{IsParsedStart}
use Rattle.jh_settings.specs.declared.keys.Key.{Key}
use Rattle.jh_settings.proofs.ElementLemmas.{held_once, none_not}

keys_once : (value : Edn) (j k : Keys) → text_keys value ≡ Ok j → text_keys value ≡ Ok k → j ≡ k
keys_once value j k h g = cc

shape_once : (value : Edn) (s t : Shape) → HasShape value s → HasShape value t → s ≡ t
shape_once value s t h k =
    let same : h.0 ≡ k.0 = keys_once value h.0 k.0 h.1 k.1 in
    same_Some s t (sym h.2 ∙ ap shape_of same ∙ k.2)

-- a text has one list of names
pub names_once : (value : Edn) (xs ys : List (List ℕ)) (c d : Table) → SpellsEnv value xs c → SpellsEnv value ys d → xs ≡ ys
names_once value xs ys c d h k = sym h.2 ∙ ap (λ (s : Shape). s.names) (shape_once value h.0 k.0 h.1 k.1) ∙ k.2

no_keys : (value : Edn) (e : EnvTextError) (xs : List (List ℕ)) (cells : Table) → text_keys value ≡ Err e → SpellsEnv value xs cells → ⊥
no_keys value e xs cells refused h = cc

no_entries : (value : Edn) (k : Keys) (xs : List (List ℕ)) (cells : Table) → text_keys value ≡ Ok k → shape_of k ≡ None → SpellsEnv value xs cells → ⊥
no_entries value k xs cells h refused parsed =
    let same : k ≡ parsed.1.0 = keys_once value k parsed.1.0 h parsed.1.1 in
    none_not parsed.0 (sym refused ∙ ap shape_of same ∙ parsed.1.2)

no_names : (value : Edn) (e : NodesError) (xs : List (List ℕ)) (cells : Table) → RefusesTextNames value e → SpellsEnv value xs cells → (RefusesNames xs e → AreFew xs → AreNodeNames xs → ⊥) → ⊥
no_names value e xs cells refused parsed never =
    let same : refused.0.names ≡ xs = ap (λ (s : Shape). s.names) (shape_once value refused.0 parsed.0 refused.1 parsed.1) ∙ parsed.2 in
    never (subst (λ ns. RefusesNames ns e) same refused.2) parsed.3 parsed.4

no_entry : (value : Edn) (e : EnvTextError) (xs : List (List ℕ)) (cells : Table) → RefusesEntry value e → SpellsEnv value xs cells → ⊥
no_entry value e xs cells refused parsed =
    let shape : refused.0 ≡ parsed.0 = shape_once value refused.0 parsed.0 refused.1 parsed.1 in
    let names : refused.0.names ≡ xs = ap (λ (s : Shape). s.names) shape ∙ parsed.2 in
    let error : HasEntryError xs parsed.0.entries e = subst (λ es. HasEntryError xs es e) (ap (λ (s : Shape). s.entries) shape) (subst (λ ns. HasEntryError ns refused.0.entries e) names refused.4) in
    none_not e (sym (parsed.5 error.0) ∙ error.1)

bad_name : (xs : List (List ℕ)) → RefusesSomeName xs names.BadName → AreNodeNames xs → ⊥
bad_name xs refused good = true≢false (sym (good refused.0 refused.1 refused.2 refused.3).0 ∙ refused.5)

second_name : (xs : List (List ℕ)) → RefusesSomeName xs names.DuplicateName → AreNodeNames xs → ⊥
second_name xs refused good = true≢false (sym refused.5.1 ∙ (good refused.0 refused.1 refused.2 refused.3).1)

pub means_none : (value : Edn) (e : EnvTextError) → RefusesSpelledEnv value e → (e ≡ OutOfMemory → ⊥) → (xs : List (List ℕ)) (cells : Table) → SpellsEnv value xs cells → ⊥
means_none value NotMap h memory xs cells parsed = no_keys value NotMap xs cells h parsed
means_none value UnknownKey h memory xs cells parsed = no_keys value UnknownKey xs cells h parsed
means_none value MissingNodes h memory xs cells parsed = no_keys value MissingNodes xs cells h parsed
means_none value BadEntry h memory xs cells parsed = no_entries value h.0 xs cells h.1 h.2 parsed
means_none value NoNodes h memory xs cells parsed = no_names value names.NoNodes xs cells h parsed (λ none few good. omega (arith, ap length none, few.0))
means_none value TooManyNodes h memory xs cells parsed = no_names value names.TooManyNodes xs cells h parsed (λ many few good. omega (arith, many, few.1))
means_none value BadName h memory xs cells parsed = no_names value names.BadName xs cells h parsed (λ bad few good. bad_name xs bad.1 good)
means_none value DuplicateName h memory xs cells parsed = no_names value names.DuplicateName xs cells h parsed (λ twice few good. second_name xs twice.1 good)
means_none value UnknownNode h memory xs cells parsed = no_entry value UnknownNode xs cells h parsed
means_none value SelfLink h memory xs cells parsed = no_entry value SelfLink xs cells h parsed
means_none value BadAmount h memory xs cells parsed = no_entry value BadAmount xs cells h parsed
means_none value RepeatedEntry h memory xs cells parsed = no_entry value RepeatedEntry xs cells h parsed
means_none value OutOfMemory h memory xs cells parsed = absurd (memory refl)

none_starts : (document : Members) (x : Edn) → HoldsElement Key.Start document x → ((names : List (List ℕ)) (cells : Table) → SpellsEnv x names cells → ⊥) → ((env : EnvValue) × IsParsedStart document env) → ⊥
none_starts document x held none start =
    let same : start.1.0 ≡ x = held_once Key.Start document start.1.0 x start.1.1 held in
    none start.0.names start.0.start (subst (λ y. SpellsEnv y start.0.names start.0.start) same start.1.2)

pub start_refused : (document : Members) (x : Edn) → HoldsElement Key.Start document x → (e : EnvTextError) → RefusesSpelledEnv x e → RefusesValue ((env : EnvValue) × IsParsedStart document env) Key.Start (start_refusal e)
start_refused document x held NotMap h = (refl, none_starts document x held (means_none x NotMap h (λ e. cc)))
start_refused document x held UnknownKey h = (refl, none_starts document x held (means_none x UnknownKey h (λ e. cc)))
start_refused document x held MissingNodes h = (refl, none_starts document x held (means_none x MissingNodes h (λ e. cc)))
start_refused document x held BadEntry h = (refl, none_starts document x held (means_none x BadEntry h (λ e. cc)))
start_refused document x held NoNodes h = (refl, none_starts document x held (means_none x NoNodes h (λ e. cc)))
start_refused document x held TooManyNodes h = (refl, none_starts document x held (means_none x TooManyNodes h (λ e. cc)))
start_refused document x held BadName h = (refl, none_starts document x held (means_none x BadName h (λ e. cc)))
start_refused document x held DuplicateName h = (refl, none_starts document x held (means_none x DuplicateName h (λ e. cc)))
start_refused document x held UnknownNode h = (refl, none_starts document x held (means_none x UnknownNode h (λ e. cc)))
start_refused document x held SelfLink h = (refl, none_starts document x held (means_none x SelfLink h (λ e. cc)))
start_refused document x held BadAmount h = (refl, none_starts document x held (means_none x BadAmount h (λ e. cc)))
start_refused document x held RepeatedEntry h = (refl, none_starts document x held (means_none x RepeatedEntry h (λ e. cc)))
start_refused document x held OutOfMemory h = tt

-- a document means one list of nodes at the start
pub nodes_once : (document : Members) (env other : EnvValue) → IsParsedStart document env → IsParsedStart document other → env.names ≡ other.names
nodes_once document env other h k =
    let same : h.0 ≡ k.0 = held_once Key.Start document h.0 k.0 h.1 k.1 in
    names_once k.0 env.names other.names env.start other.start (subst (λ y. SpellsEnv y env.names env.start) same h.2) k.2
