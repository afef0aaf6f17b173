use Rattle.audit_reader.proofs.fits.event_fits.Goals as goal

pub returns : goal.returns
returns c =
    record {
      boot = c.id_fits.ensures.boot;
      bay = c.id_fits.ensures.bay;
      number = c.id_fits.ensures.number;
      target = c.text_fits.ensures;
      verb = c.text_fits-2.ensures;
      user = c.user_fits.ensures;
      impersonated = c.impersonated_fits.ensures;
      peer = c.peer_fits.ensures;
      agent = c.text_fits-3.ensures;
      object_ref = c.object_fits.ensures;
      code = c.code_fits.ensures;
      received = c.moment_fits.ensures;
      at = c.moment_fits-2.ensures;
    }
