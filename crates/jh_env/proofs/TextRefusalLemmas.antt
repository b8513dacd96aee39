-- Facts about why a text is refused.
use Rattle.std.proofs.Common.{◌≡◌, ℕ, Bool, true, false, List, take, Some, None, option_and_then, subst}
use Rattle.std.specs.Prelude.{if◌then◌else◌, not, slice_get}
use Rattle.std.specs.List.{list_any}
use Rattle.std.specs.Option.{option_or}
use Rattle.jh_edn.specs.Edn.{Edn}
use Rattle.jh_env.specs.declared.names.NodesError.{NodesError}
use Rattle.jh_env.specs.declared.texts.EnvTextError.{EnvTextError}
use Rattle.jh_env.specs.declared.texts.EnvTextError.TheVariants.{UnknownNode, SelfLink, BadAmount, RepeatedEntry}
use Rattle.jh_env.specs.Names.{AreNodeNames, AreFew, RefusesNames}
use Rattle.jh_env.specs.Text.{Entry, Shape}
use Rattle.jh_env.specs.TextErrors.{names_nodes, links_itself, is_amount, repeats, entry_error_after, entry_error_at, HasEntryError, HasShape, RefusesSpelledEnv}
use Rattle.jh_env.specs.TextInside.{nodes_error}

-- the faults that an entry may have
IsEntryError : EnvTextError → Type 0
IsEntryError UnknownNode = Unit {0}
IsEntryError SelfLink = Unit {0}
IsEntryError BadAmount = Unit {0}
IsEntryError RepeatedEntry = Unit {0}
IsEntryError _ = ⊥

kind_of_error : (known itself good repeated : Bool) (error : EnvTextError)
    → option_or (if not known then Some UnknownNode else if itself then Some SelfLink else if not good then Some BadAmount else None)
    (if repeated then Some RepeatedEntry else None) ≡ Some error
    → IsEntryError error
unfolding IsEntryError
kind_of_error false itself good repeated error is = let e : UnknownNode ≡ error = cc in subst IsEntryError e tt
kind_of_error true true good repeated error is = let e : SelfLink ≡ error = cc in subst IsEntryError e tt
kind_of_error true false false repeated error is = let e : BadAmount ≡ error = cc in subst IsEntryError e tt
kind_of_error true false true true error is = let e : RepeatedEntry ≡ error = cc in subst IsEntryError e tt
kind_of_error true false true false error is = absurd cc

kind_at : (names : List (List ℕ)) (entries : List Entry) (place : ℕ) (error : EnvTextError) → entry_error_at names entries place ≡ Some error → IsEntryError error
kind_at names entries place error is =
    elim (slice_get entries place) as (λ o. option_and_then (entry_error_after names (take place entries)) o ≡ Some error → IsEntryError error) [
      | None ↦ λ e. absurd cc
      | Some entry ↦ λ e. kind_of_error (names_nodes names entry) (links_itself entry) (is_amount entry) (list_any (repeats entry) (take place entries)) error e
    ] is

refused_for : (value : Edn) (shape : Shape) (error : EnvTextError) → HasShape value shape → AreFew shape.names → AreNodeNames shape.names
    → HasEntryError shape.names shape.entries error → IsEntryError error → RefusesSpelledEnv value error
unfolding IsEntryError
refused_for value shape UnknownNode has few named wrong kind = (shape, has, few, named, wrong)
refused_for value shape SelfLink has few named wrong kind = (shape, has, few, named, wrong)
refused_for value shape BadAmount has few named wrong kind = (shape, has, few, named, wrong)
refused_for value shape RepeatedEntry has few named wrong kind = (shape, has, few, named, wrong)
refused_for value shape _ has few named wrong kind = absurd kind

-- a text with an entry in error is refused
pub entry_refused : (value : Edn) (shape : Shape) (error : EnvTextError) → HasShape value shape → AreFew shape.names → AreNodeNames shape.names
    → HasEntryError shape.names shape.entries error → RefusesSpelledEnv value error
entry_refused value shape error has few named wrong =
    refused_for value shape error has few named wrong (kind_at shape.names shape.entries wrong.0 error wrong.1)

-- a text with names that are refused is refused
pub names_refused : (value : Edn) (shape : Shape) (error : NodesError) → HasShape value shape → RefusesNames shape.names error → RefusesSpelledEnv value (nodes_error error)
names_refused value shape NodesError.NoNodes has refused = (shape, has, refused)
names_refused value shape NodesError.TooManyNodes has refused = (shape, has, refused)
names_refused value shape NodesError.BadName has refused = (shape, has, refused)
names_refused value shape NodesError.DuplicateName has refused = (shape, has, refused)
names_refused value shape NodesError.OutOfMemory has refused = (has.0, has.1)
