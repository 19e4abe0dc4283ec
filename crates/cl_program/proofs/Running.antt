-- How a run ends, from its steps.
use Rattle.std.proofs.Common.{◌≡◌, ◌⊎◌, ◌∙◌, ℕ, List, [], ◌∷◌, ◌++◌, length, Option, Some, Result, Ok, Err, IfSome, IsErrAnd, OnOk, OnErr, ap, map, append-nil, append_assoc, codes, inl, inr, refl, sym, subst}
use Rattle.std.proofs.lemmas.List.{length-map}
use Rattle.std.specs.Io.KnownBytes.{Appends}
use Rattle.cl_model.specs.Content.{Content}
use Rattle.cl_config.specs.Views.{Configured, Loader, Scripted, names_of}
use Rattle.cl_registry.specs.declared.report.Report.{Report}
use Rattle.cl_bundle.specs.Bundles.{IsBundle, IsNoBundle}
use Rattle.cl_bundle.specs.Faults.{UnlessMemory}
use Rattle.cl_bundle.specs.declared.fault.BundleFault.{BundleFault}
use Rattle.cl_program.specs.Files.{AreNoText}
use Rattle.cl_program.specs.Faults.{IsInputFault, print_fault}
use Rattle.cl_program.specs.Outputs.{Outputs, TellsFault, fault_line}
use Rattle.cl_streams.specs.Writing.{Stream, WritesPart}
use Rattle.cl_program.specs.Runs.{AreLinesFor, EndsBy, IsInput, IsNoBundleIn, IsRun, IsServedBy, RunOf}
use Rattle.cl_program.specs.Serving.{IsUnserved}
use Rattle.cl_program.specs.declared.asked.Options.{Options}
use Rattle.cl_report.specs.Report.{report_lines}
use Rattle.cl_streams.specs.Writing.{AppendsPart}
use Rattle.cl_program.specs.declared.fault.Fault.{Fault}
use Rattle.cl_program.specs.declared.fault.Fault.TheVariants.{Input, Write, TooLarge, NotUtf8, Bundle, Serve, Threads, Memory}
use Rattle.cl_streams.specs.declared.output.PrintFault.{PrintFault}
use Rattle.cl_streams.specs.declared.output.PrintFault.TheVariants as print
use Rattle.cl_streams.proofs.Written.{appends_nothing}
use Rattle.cl_bundle.proofs.Refusals.{unless_by}
use Rattle.cl_program.specs.declared.limits.TheConstants.{MOST_INPUT_BYTES}
use Rattle.cl_streams.specs.Reading.{GivesOver}

-- a stream on which nothing is written
abbrev pub still : Option (List ℕ) → Stream
still x = record { old = x; new = x }

pub ran_wrong : (input : Option (List ℕ)) (asked : Options) (out : Stream) (r : Result (Unit {0}) Fault) (fault : Fault) → IsErrAnd r (λ e. e ≡ fault) → EndsBy input asked out fault → RunOf input asked out r
ran_wrong input asked out (Ok x) fault e w = absurd e
ran_wrong input asked out (Err f) fault e w = subst (EndsBy input asked out) (sym e) w

pub by_input : (input : Option (List ℕ)) (asked : Options) (old : Option (List ℕ)) (fault : Fault) → IsInputFault fault → (fault ≡ TooLarge → GivesOver input MOST_INPUT_BYTES)
    → (fault ≡ NotUtf8 → IfSome input (λ bytes. AreNoText bytes)) → EndsBy input asked (still old) fault
by_input input asked old Input k large other = (appends_nothing old, tt)
by_input input asked old TooLarge k large other = (appends_nothing old, large refl)
by_input input asked old NotUtf8 k large other = (appends_nothing old, other refl)
by_input input asked old Memory k large other = inl (appends_nothing old, tt)
by_input input asked old fault k large other = absurd k

pub by_memory : (input : Option (List ℕ)) (asked : Options) (old : Option (List ℕ)) → EndsBy input asked (still old) Memory
by_memory input asked old = inl (appends_nothing old, tt)

-- ---- a fault of a bundle

pub by_bundle : (input : Option (List ℕ)) (asked : Options) (old : Option (List ℕ)) (text : List ℕ) (fault : BundleFault) → IsInput input text → UnlessMemory fault (IsNoBundle text fault)
    → EndsBy input asked (still old) (Bundle fault)
by_bundle input asked old text fault is w = (appends_nothing old, unless_by fault (IsNoBundle text fault) (IsNoBundleIn input fault) (λ wrong. (text, is, wrong)) w)

-- ---- a script that is not served

pub by_service : (input : Option (List ℕ)) (asked : Options) (old : Option (List ℕ)) (text : List ℕ) (config : Configured) (content : Content) (script : Scripted) (fault : Fault)
    → IsInput input text → IsBundle text config content script → IsUnserved asked.workers fault → EndsBy input asked (still old) fault
by_service input asked old text config content script (Serve wrong) is bundle w =
    (appends_nothing old, record { text = text; config = config; content = content; script = script; input_is = is; bundle = bundle; holds = w })
by_service input asked old text config content script (Threads wrong) is bundle w =
    (appends_nothing old, record { text = text; config = config; content = content; script = script; input_is = is; bundle = bundle; holds = w })
by_service input asked old text config content script fault is bundle w = absurd w

-- ---- a report that is broken off

-- the lines that are printed for what was read and served are those of a report, where what is held in between is what was read
pub are_lines : (input : Option (List ℕ)) (asked : Options) (text : List ℕ) (config held seen : Configured) (content : Content) (script given : Scripted) (report : Report) (names : List (List ℕ))
    → IsInput input text → IsBundle text config content script → held ≡ config → given ≡ script → IsServedBy asked.workers (Some content) held given report
    → names ≡ names_of seen → seen ≡ config → AreLinesFor input asked (report_lines names asked.answers report.history report.answers)
are_lines input asked text config held seen content script given report names is bundle h s served n e = record {
  text = text;
  config = config;
  content = content;
  script = script;
  input_is = is;
  bundle = bundle;
  holds = record {
    report = report;
    served = subst (λ (x : Scripted). IsServedBy asked.workers (Some content) config x report) s (subst (λ (x : Configured). IsServedBy asked.workers (Some content) x given report) h served);
    are = ap (λ (x : List (List ℕ)). report_lines x asked.answers report.history report.answers) (n ∙ ap names_of e);
  };
}

-- there is a name for each loader
pub names_count : {S : Type 0} (f : S → List ℕ) (names : List S) (held seen : Configured) → map f names ≡ names_of seen → seen ≡ held → length held.loaders ≡ length names
names_count f names held seen e same = sym (ap (λ (c : Configured). length c.loaders) same) ∙ sym (length-map seen.loaders (λ (l : Loader). l.name)) ∙ sym (ap length e) ∙ length-map names f

pub by_print : (input : Option (List ℕ)) (asked : Options) (out : Stream) (lines : List ℕ) (fault : PrintFault) → AreLinesFor input asked lines → WritesPart out lines → EndsBy input asked out (print_fault fault)
by_print input asked out lines print.Write are part = record { lines = lines; are = are; part = part }
by_print input asked out lines print.Memory are part = inr (record { lines = lines; are = are; part = part })

-- ---- the exit status

-- out of memory may be told in place of any other fault
as_memory : (input : Option (List ℕ)) (asked : Options) (out : Stream) (fault : Fault) → EndsBy input asked out fault → EndsBy input asked out Memory
as_memory input asked out Input w = inl (w.0, tt)
as_memory input asked out TooLarge w = inl (w.0, tt)
as_memory input asked out NotUtf8 w = inl (w.0, tt)
as_memory input asked out (Bundle wrong) w = inl (w.0, tt)
as_memory input asked out (Serve wrong) w = inl (w.0, tt)
as_memory input asked out (Threads wrong) w = inl (w.0, tt)
as_memory input asked out Write w = inr w
as_memory input asked out Memory w = w
as_memory input asked out fault w = absurd w

pub run_failed : (input : Option (List ℕ)) (asked : Options) (o : Outputs) (fault : Fault) (status : ℕ) → EndsBy input asked o.out fault → status ≡ 1
    → TellsFault o.err fault ⊎ TellsFault o.err Memory → IsRun input asked o status
run_failed input asked o fault status ran is (inl told) = record { outcome = Err fault; ran = ran; told = (is, told) }
run_failed input asked o fault status ran is (inr told) = record { outcome = Err Memory; ran = as_memory input asked o.out fault ran; told = (is, told) }

-- ---- the line of a fault

pub write_part : {E : Type 0} (r : Result (Unit {0}) E) (old new : Option (List ℕ)) (bytes : List ℕ) → OnOk r (Appends old new bytes) → OnErr r (AppendsPart old new bytes) → AppendsPart old new bytes
write_part (Ok x) old new bytes all part = record { front = bytes; rest = []; whole = sym (append-nil bytes); grown = all }
write_part (Err e) old new bytes all part = part

pub told_line : (old new : Option (List ℕ)) (text line : List ℕ) → line ≡ codes "classlink: " ++ (text ++ 10 ∷ []) → AppendsPart old new line → AppendsPart old new (fault_line text)
told_line old new text line e p = subst (AppendsPart old new) (e ∙ sym (append_assoc (codes "classlink: ") text (10 ∷ []))) p
