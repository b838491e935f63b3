use Rattle.std.proofs.Common.{rules, ◌≡◌, Bool, List, map, sym, subst, inr, pos, to_z, w32}
use Rattle.std.proofs.lemmas.Bool.{le-leb, lt-leb}
use Rattle.std.specs.Prelude.{if◌then◌else◌, string_bytes}
use Rattle.clap.specs.Words.{Text}
use Rattle.cf_base.specs.Status.{status_code}
use Rattle.cf_base.specs.declared.status.Status.TheVariants.{WriteFault}
use Rattle.cf_page.specs.ArgumentWords.{argument_words}
use Rattle.cf_page.specs.PageRun.{IsPlayed}
use Rattle.cf_page.proofs.cf_page_run.Goals as goal

pub returns-then-length-room : goal.returns-then-length-room
returns-then-length-room c =
    let words : map (λ word. string_bytes word) c.as_slice.result.now ≡ argument_words c.args.lines.now = search rules in
    record {
      shown = inr (record {
        status = c.in-Some.status;
        played = subst (λ (w : List Text). IsPlayed w c.args.script.now c.args.out.now c.in-Some.status c.in-Some.length c.play.new.out) words c.in-Some.ensures;
        exit = subst (λ (fits : Bool). to_z w32 c.code-then-length-room.result ≡ pos (status_code (if fits then c.in-Some.status else WriteFault)))
            (sym (le-leb _ _ c.if-length-room.true)) (search rules);
      });
    }

pub returns-in-Some : goal.returns-in-Some
returns-in-Some c =
    let words : map (λ word. string_bytes word) c.as_slice.result.now ≡ argument_words c.args.lines.now = search rules in
    record {
      shown = inr (record {
        status = c.in-Some.status;
        played = subst (λ (w : List Text). IsPlayed w c.args.script.now c.args.out.now c.in-Some.status c.in-Some.length c.play.new.out) words c.in-Some.ensures;
        exit = subst (λ (fits : Bool). to_z w32 c.code-else-length-room.result ≡ pos (status_code (if fits then c.in-Some.status else WriteFault)))
            (sym (lt-leb _ _ c.if-length-room.false)) (search rules);
      });
    }
