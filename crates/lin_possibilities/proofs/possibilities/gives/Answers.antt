use Rattle.std.proofs.Common.{◌≡◌, ◌∙◌, None, ap, subst, sym}
use Rattle.std.specs.Prelude.{option_map}
use Rattle.lin_events.specs.Sameness.{items_Decides}
use Rattle.lin_tables.specs.Values.{between, items_text, state_text}
use Rattle.lin_possibilities.specs.Words.{reply_words}
use Rattle.lin_possibilities.specs.declared.words.Extent.TheVariants.{Short}
use Rattle.lin_possibilities.proofs.possibilities.gives.Goals as goal

pub returns-in-None-Members-Members : goal.returns-in-None-Members-Members
returns-in-None-Members-Members c = λ yes' names.
    let here = c.in-None-Members-Members in
    let same = (items_Decides here.members here.others).0 (sym c.eq-in-None-Members-Members.ensures ∙ yes') in
    subst (λ o. reply_words Short names (option_map (λ m. m.now) o) c.args.reply.now ≡ state_text names c.args.state.now) (sym here.is-0)
    (subst (λ r. reply_words Short names None r ≡ state_text names c.args.state.now) (sym here.is-1)
    (subst (λ s. between 123 (items_text names here.members) 125 ≡ state_text names s) (sym here.is-2)
    (ap (λ l. between 123 (items_text names l) 125) same)))
