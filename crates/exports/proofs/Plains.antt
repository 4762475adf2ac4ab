-- The numbers and the lists that cross, from those of the call inside. Assumes nothing.
use mathlib.Core.Path.{◌≡◌, refl, ap, ◌∙◌}
use Rattle.network.specs.declared.options.Options.{Options}
use Rattle.std.specs.Prelude.{Result, Ok, Err}
use Rattle.network.specs.declared.refusals.Refusal.{Refusal}
use Rattle.network.specs.Refusal.{number_of}
use Rattle.drawing.specs.declared.answer.Plot.{Plot}
use Rattle.drawing.specs.Network as Network
use Rattle.drawing.specs.Answer as Layout
use Rattle.drawing.specs.Number.{layout_number, Answered}
use Rattle.fill.specs.declared.answer.Largest.{Largest}
use Rattle.fill.specs.Fill as Fill
use Rattle.audit.specs.declared.findings.answer.Figures.{Figures}
use Rattle.audit.specs.Drawn as Drawn
use Rattle.audit.specs.Answer as Quality
use Rattle.records.specs.declared.plain.Settings.{Settings}
use Rattle.records.specs.declared.plain.Plotted.{Plotted}
use Rattle.records.specs.declared.plain.Filled.{Filled}
use Rattle.records.specs.declared.plain.Audited.{Audited}
use Rattle.records.specs.Plain.{options_of, plotted, audited, filled, drew, plain_layout, fill_drew, plain_fill, judged, plain_audit, LayoutAnswered, FillAnswered, AuditAnswered}

layout_numbered : (a : Result Plot Refusal) → (plotted a).number ≡ number_of a
unfolding plotted number_of
layout_numbered (Ok p) = refl
layout_numbered (Err r) = refl

audit_numbered : (a : Result Figures Refusal) → (audited a).number ≡ number_of a
unfolding audited number_of
audit_numbered (Ok f) = refl
audit_numbered (Err r) = refl

layout_plain : (o : Options) (s : Settings) (r : Plotted) (a : Result Plot Refusal) (L' : Network.Lists) (W' : Network.Work) (X' : Network.Crossings)
    (N : Network.Network) (L : Network.Lists) (W : Network.Work) (X : Network.Crossings)
    → o ≡ options_of s → r ≡ plotted a → Answered o N L W X (Layout.call a L' W' X')
    → LayoutAnswered s N L W X (drew r L' W' X')
unfolding plain_layout
layout_plain o s r a L' W' X' N L W X p e h =
    record {
      number =
          ap (λ (t : Plotted). t.number) e
          ∙ (layout_numbered a ∙ (h.number ∙ ap (λ (t : Options). layout_number t N (Layout.room_of L W X)) p));
      is =
          ap (λ (t : Plotted). drew t L' W' X') e
          ∙ (ap plain_layout h.is ∙ ap (λ (t : Options). plain_layout (Layout.layout_of t N L W X)) p);
    }

fill_plain : (o : Options) (s : Settings) (r : Filled) (a : Result Largest Refusal) (L' : Network.Lists) (W' : Network.Work) (X' : Network.Crossings)
    (N : Network.Network) (L : Network.Lists) (W : Network.Work) (X : Network.Crossings)
    → o ≡ options_of s → r ≡ filled a → Fill.fill_call a L' W' X' ≡ Fill.largest_fill_of o N L W X
    → FillAnswered s N L W X (fill_drew r L' W' X')
unfolding plain_fill
fill_plain o s r a L' W' X' N L W X p e h =
    record {
      is =
          ap (λ (t : Filled). fill_drew t L' W' X') e
          ∙ (ap plain_fill h ∙ ap (λ (t : Options). plain_fill (Fill.largest_fill_of t N L W X)) p);
    }

audit_plain : (r : Audited) (a : Result Figures Refusal) (L' : Drawn.Lists) (W' : Drawn.Work) (E : Drawn.Drawn) (L : Drawn.Lists) (W : Drawn.Work)
    → r ≡ audited a → Quality.Answered E L W (Quality.call a L' W') → AuditAnswered E L W (judged r L' W')
unfolding plain_audit
audit_plain r a L' W' E L W e h =
    record {
      number = ap (λ (t : Audited). t.number) e ∙ (audit_numbered a ∙ h.number);
      is = ap (λ (t : Audited). judged t L' W') e ∙ ap plain_audit h.is;
    }

-- The same where the lists stand in structs: they end as what the structs' lists hold.
pub layout_lent : (o : Options) (s : Settings) (r : Plotted) (a : Result Plot Refusal) (L' L1 : Network.Lists) (W' W1 : Network.Work) (X' X1 : Network.Crossings)
    (N : Network.Network) (L : Network.Lists) (W : Network.Work) (X : Network.Crossings)
    → o ≡ options_of s → r ≡ plotted a → Answered o N L W X (Layout.call a L1 W1 X1) → L' ≡ L1 → W' ≡ W1 → X' ≡ X1
    → LayoutAnswered s N L W X (drew r L' W' X')
layout_lent o s r a L' L1 W' W1 X' X1 N L W X p e h f g k = rw (f, g, k) (layout_plain o s r a L1 W1 X1 N L W X p e h)

pub fill_lent : (o : Options) (s : Settings) (r : Filled) (a : Result Largest Refusal) (L' L1 : Network.Lists) (W' W1 : Network.Work) (X' X1 : Network.Crossings)
    (N : Network.Network) (L : Network.Lists) (W : Network.Work) (X : Network.Crossings)
    → o ≡ options_of s → r ≡ filled a → Fill.fill_call a L1 W1 X1 ≡ Fill.largest_fill_of o N L W X → L' ≡ L1 → W' ≡ W1 → X' ≡ X1
    → FillAnswered s N L W X (fill_drew r L' W' X')
fill_lent o s r a L' L1 W' W1 X' X1 N L W X p e h f g k = rw (f, g, k) (fill_plain o s r a L1 W1 X1 N L W X p e h)

pub audit_lent : (r : Audited) (a : Result Figures Refusal) (L' L1 : Drawn.Lists) (W' W1 : Drawn.Work) (E : Drawn.Drawn) (L : Drawn.Lists) (W : Drawn.Work)
    → r ≡ audited a → Quality.Answered E L W (Quality.call a L1 W1) → L' ≡ L1 → W' ≡ W1 → AuditAnswered E L W (judged r L' W')
audit_lent r a L' L1 W' W1 E L W e h f g = rw (f, g) (audit_plain r a L1 W1 E L W e h)
