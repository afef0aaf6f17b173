-- A sink is off exactly where no option names it.
use Rattle.std.proofs.Common.{◌≡◌, ℕ, Bool, true, false, if◌then◌else◌, List, Option, Some, None, Result, Ok, Err, codes, refl, sym, ap, ◌∙◌}
use Rattle.std.specs.Str.{bytes_eq}
use Rattle.json_value.specs.Results.{◌>>=◌, found_or}
use Rattle.audit_core.specs.declared.sinks.SinkMode.{SinkMode}
use Rattle.audit_core.specs.declared.sinks.SinkMode.TheVariants.{Off, Batch, Blocking, Strict}
use Rattle.command_options.specs.declared.fault.WordsFault.TheVariants.{Usage}
use Rattle.serve_config.specs.Serve.{mode_named, mode_of, sink_by}
use Rattle.serve_config.specs.declared.fault.ServeFault.{ServeFault}
use Rattle.serve_config.specs.declared.fault.ServeFault.TheVariants.{Words}
use Rattle.serve_config.specs.declared.sinks.SinkWords.{SinkWords}

-- no text is the mode of a sink that is off
named_on : (text : List ℕ) → mode_named text ≡ Some Off → ⊥
named_on text = go (bytes_eq text (codes "batch")) (bytes_eq text (codes "blocking")) (bytes_eq text (codes "blocking-strict"))
  where
    go : (a b c : Bool) → (if a then Some Batch else if b then Some Blocking else if c then Some Strict else None) ≡ Some Off → ⊥
    go true b c e = cc e
    go false true c e = cc e
    go false false true e = cc e
    go false false false e = cc e

mode_on : (default : SinkMode) (mode : Option (List ℕ)) → (default ≡ Off → ⊥) → mode_of default mode ≡ Ok Off → ⊥
mode_on default None on e = on (cc e)
mode_on default (Some text) on e = go (mode_named text) (named_on text) e
  where
    go : (named : Option SinkMode) → (named ≡ Some Off → ⊥) → found_or (Words Usage) named ≡ Ok Off → ⊥
    go None none e = cc e
    go (Some own) none e = none (cc e)

pub off_where_none : (default : SinkMode) (target mode : Option (List ℕ)) (sink : SinkWords) → (default ≡ Off → ⊥)
    → sink_by default target mode ≡ Ok sink → (sink.target ≡ target) × ((sink.mode ≡ Off → target ≡ None) × (target ≡ None → sink.mode ≡ Off))
off_where_none default None None sink on e = (cc e, ((λ off. refl), (λ none. cc e)))
off_where_none default None (Some mode) sink on e = absurd (cc e)
off_where_none default (Some target) mode sink on e = go (mode_of default mode) (mode_on default mode on) e
  where
    go : (own : Result SinkMode ServeFault) → (own ≡ Ok Off → ⊥) → (own >>= (λ m. Ok (record { target = Some target; mode = m }))) ≡ Ok sink
        → (sink.target ≡ Some target) × ((sink.mode ≡ Off → Some target ≡ None) × (Some target ≡ None → sink.mode ≡ Off))
    go (Err fault) never e = absurd (cc e)
    go (Ok m) never e =
        let same : record { target = Some target; mode = m } ≡ sink = cc e in
        let target_is : sink.target ≡ Some target = sym (ap (λ (s : SinkWords). s.target) same) in
        let mode_is : m ≡ sink.mode = ap (λ (s : SinkWords). s.mode) same in
        (target_is, ((λ off. absurd (never (ap Ok (mode_is ∙ off)))), (λ none. absurd (cc none))))
